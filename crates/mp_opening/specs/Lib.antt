-- What the contracts of this crate cite.
pub mod Below
pub mod ByBin
pub mod Checkpoints
pub mod Openings
