-- What the contracts of this crate cite.
pub mod Below
pub mod Schedule
pub mod Refused
