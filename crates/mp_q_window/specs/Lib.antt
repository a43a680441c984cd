-- What the contracts of this crate cite, and the proofs of the laws.
pub mod Best
pub mod Counts
pub mod Laws
pub mod Q5
pub mod Q7
pub mod Recent
pub mod Windows
