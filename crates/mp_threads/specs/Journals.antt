-- What workers on threads keep of their steps, for the crates above.
pub use Rattle.mp_threads_crew.specs.Journals.{TellFullLogs}
