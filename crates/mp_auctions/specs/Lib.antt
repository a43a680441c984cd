-- What the contracts of this crate cite, and the proofs of the laws.
pub mod Bidding
pub mod Closed
pub mod Laws
pub mod SaleLaws
pub mod Sales
