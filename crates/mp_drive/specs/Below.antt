-- What the crates above take of those below through this one.
pub use Rattle.mp_schedule.specs.Below.{kept_one, none_of}
pub use Rattle.mp_schedule.specs.Schedule.{EndsAfter, IsKeptBySchedule}
