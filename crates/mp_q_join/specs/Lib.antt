-- What the contracts of this crate cite, and the proofs of the laws.
pub mod Joining
pub mod Keys
pub mod Laws
pub mod Names
pub mod Q3
pub mod Q8
pub mod Selling
