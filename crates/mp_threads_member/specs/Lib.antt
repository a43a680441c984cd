-- What the contracts of this crate cite.
pub mod Below
pub mod Members
pub mod Rounds
pub mod Driving
