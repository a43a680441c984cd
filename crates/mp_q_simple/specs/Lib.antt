-- What the contracts of this crate cite, and the proofs of the laws.
pub mod Bids
pub mod Laws
pub mod Q1
pub mod Q2
pub mod Settled
