-- What the contracts of this crate cite.
pub mod Applied
pub mod Applying
pub mod Onward
