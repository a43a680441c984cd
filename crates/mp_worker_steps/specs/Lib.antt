-- What the contracts of this crate cite.
pub mod Ingesting
pub mod Writing
