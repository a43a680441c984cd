-- What the contracts of this crate cite, and the proofs of the laws.
pub mod Groups
pub mod Laws
pub mod Numbers
pub mod Pipes
pub mod Records
pub mod Stages
