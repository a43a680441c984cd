-- What the crates above take of those below through this one.
pub use Rattle.mp_job.proofs.Members.{Contains-cases, Contains-filter, Contains-here, Contains-later, filter-Contains, nothing_in_nil}
pub use Rattle.mp_job.specs.Below.{bin_of_key}
