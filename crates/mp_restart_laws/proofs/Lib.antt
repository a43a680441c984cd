-- The lemmas of this crate.
pub mod Lists
pub mod Tables
pub mod Split
pub mod Timelines
pub mod Rows
pub mod Resuming
pub mod Below
pub mod Stopping
pub mod OfJobs
pub mod Saying
pub mod OneWay
