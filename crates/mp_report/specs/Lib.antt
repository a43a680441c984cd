-- What the contracts of this crate cite.
pub mod Journal
pub mod Lines
pub mod Report
pub mod Told
