-- What the contracts of this crate cite, and the proofs of the laws.
pub mod Laws
pub mod Q4
pub mod Q6
