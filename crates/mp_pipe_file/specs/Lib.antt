-- What the contracts of this crate cite.
pub mod Fields
pub mod Lines
pub mod Pipes
pub mod Reasons
pub mod Stages
pub mod Words
