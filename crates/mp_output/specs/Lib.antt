-- What the contracts of this crate cite.
pub mod Unwritten
pub mod Rows
pub mod Wrote
pub mod Refused
pub mod Holding
