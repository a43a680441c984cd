-- What the contracts of this crate cite.
pub mod Lines
pub mod Laws
pub mod Runs
