-- What the crates above take of those below through this one.
pub use Rattle.mp_run_command.specs.Keeping.{IsKeptBy, IsKeptOf}
