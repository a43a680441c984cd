-- What the contracts of this crate cite.
pub mod Journals
pub mod Runs
