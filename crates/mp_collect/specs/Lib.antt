-- What the contracts of this crate cite.
pub mod Gathered
pub mod Laws
