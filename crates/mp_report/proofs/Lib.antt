-- The lemmas of this crate.
mod One
pub mod Prefixes
mod Tallied
mod Searched
