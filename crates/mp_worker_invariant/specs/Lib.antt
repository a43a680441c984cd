-- What the contracts of this crate cite.
pub mod Parts
pub mod Machine
pub mod Given
pub mod Laws
pub mod Kept
