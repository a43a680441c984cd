-- What the contracts of this crate cite.
pub mod Crews
pub mod Journals
