-- What the contracts of this crate cite.
pub mod Moments
pub mod Parts
pub mod Lists
