-- What the contracts of this crate cite.
pub mod EventFile
pub mod Outcome
pub mod Refused
pub mod Texts
