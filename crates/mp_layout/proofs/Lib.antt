-- The lemmas of this crate.
pub mod FirstTable
mod Hashing
