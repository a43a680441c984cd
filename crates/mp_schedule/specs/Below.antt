-- What the crates above take of those below through this one.
pub use Rattle.mp_plain.proofs.Ended.{finished}
pub use Rattle.mp_plain.proofs.Journaled.{at_mapped, journals_begin, steps_at}
pub use Rattle.mp_plain.proofs.Unmade.{kept_one, none_of}
pub use Rattle.mp_plain.specs.Below.{MayRun, no_steps, states_of_job, tally_of_job}
pub use Rattle.mp_plain.specs.Driven.{AllKnowTheEnd, AreAfter, Driven, lines_of}
pub use Rattle.mp_plain.specs.Driving.{DriveLeaves}
pub use Rattle.mp_plain.specs.Journals.{journal_at, with_more}
