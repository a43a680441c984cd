-- The lemmas of this crate.
mod Ascending
mod Cuts
mod FirstTimes
pub mod Fresh
mod Groups
mod Keys
mod Numbers
mod Outputs
mod Reordered
mod Sorting
