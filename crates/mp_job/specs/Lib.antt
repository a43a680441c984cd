-- What the contracts of this crate cite.
pub mod Below
pub mod Laws
pub mod Legal
pub mod Openings
pub mod Parts
pub mod Records
pub mod Runs
pub mod Times
