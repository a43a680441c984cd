-- What the contracts of this crate cite.
pub mod Ranks
pub mod Moments
pub mod Groups
pub mod Packed
