-- The lemmas of this crate.
pub mod Runs
pub mod Orders
pub mod Members
pub mod Placed
pub mod Woken
