-- What the contracts of this crate cite.
pub mod Done
pub mod Keeping
pub mod Stops
