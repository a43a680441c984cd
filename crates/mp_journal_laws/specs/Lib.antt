-- What the contracts of this crate cite.
pub mod Journals
pub mod Merges
pub mod Searches
pub mod MergePromises
pub mod Samples
pub mod Kept
pub mod Telling
pub mod KeptPromises
