-- What the contracts of this crate cite.
pub mod Answered
pub mod Flushed
pub mod Jobs
pub mod Keeping
pub mod Running
pub mod Stopped
pub mod Wrote
