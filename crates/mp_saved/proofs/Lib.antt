-- The lemmas of this crate.
pub mod Cutting
pub mod Reading
pub mod Spelled
pub mod Counting
pub mod Along
pub mod Kept
