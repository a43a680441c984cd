-- The lemmas of this crate, those that crates above cite among them.
pub mod Appended
pub mod Counted
pub mod Drained
pub mod Times
