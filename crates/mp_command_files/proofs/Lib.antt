-- The lemmas of this crate.
pub mod Joined
pub mod Parts
pub mod Written
