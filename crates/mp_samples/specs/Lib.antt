-- What the contracts of this crate and the tests cite, and the proofs of the laws.
pub mod Bids
pub mod Laws
pub mod Events
pub mod Jobs
pub mod States
