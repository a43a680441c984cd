-- What the contracts of this crate cite.
pub mod Below
pub mod Exchanging
pub mod Keeping
pub mod Last
pub mod Plans
pub mod Stepping
pub mod Turns
pub mod Writing
