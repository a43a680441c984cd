-- What the contracts of this crate cite.
pub mod Audits
pub mod Calls
pub mod Config
pub mod Ends
pub mod InputFiles
pub mod Inputs
pub mod Lines
pub mod Queries
pub mod Reading
pub mod Spans
pub mod Writing
