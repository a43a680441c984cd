-- What the contracts of this crate cite.
pub mod Works
pub mod Parts
