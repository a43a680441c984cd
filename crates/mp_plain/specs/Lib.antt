-- What the contracts of this crate cite.
pub mod Below
pub mod Journals
pub mod Driven
pub mod Driving
pub mod Kept
pub mod Opened
pub mod Ownership
pub mod Pacing
pub mod Places
pub mod Refused
pub mod Told
