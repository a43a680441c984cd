-- What holds of the shares and times of all jobs.
pub use Rattle.mp_shares.specs.Laws.{HasTime}
