-- What the contracts of this crate cite.
pub mod Laws
pub mod Records
pub mod Times
