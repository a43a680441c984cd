-- What the crates above take of those below through this one.
pub use Rattle.mp_worker.proofs.LastStates.{states_of_job}
pub use Rattle.mp_worker.proofs.Numbered.{behind, in_front}
pub use Rattle.mp_worker.proofs.Paced.{tally_of_job}
pub use Rattle.mp_worker.specs.Below.{Turn, no_steps}
pub use Rattle.mp_worker.specs.Below.turn as turn
pub use Rattle.mp_worker.specs.Plans.{MayRun}
