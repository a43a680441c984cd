-- What the contracts of this crate cite.
pub mod Times
pub mod Saves
pub mod Laws
