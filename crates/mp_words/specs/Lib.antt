-- What the contracts of this crate cite.
pub mod Command
pub mod Limits
pub mod Reading
pub mod Refused
pub mod Tables
pub mod Values
pub mod Words
