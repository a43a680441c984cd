-- What the crates above take of those below through this one.
pub use Rattle.mp_worker.proofs.LastStates.{all_states, states_of_job}
pub use Rattle.mp_worker.proofs.Paced.{tally_of_job}
pub use Rattle.mp_worker.specs.Below.{no_steps}
pub use Rattle.mp_worker.specs.Below.{Stop}
pub use Rattle.mp_worker.specs.Below.stop.{Memory, Other, Write}
pub use Rattle.mp_worker.specs.Below.stop as TheVariants
pub use Rattle.mp_worker.specs.Plans.{MayRun}
