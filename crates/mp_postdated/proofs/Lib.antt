-- The lemmas of this crate.
pub mod Filled
pub mod Lists
pub mod Membership
pub mod Ordered
pub mod Queued
pub mod Several
