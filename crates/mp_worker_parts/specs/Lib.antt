-- What the contracts of this crate cite.
pub mod Below
pub mod Contents
pub mod Exchanging
pub mod Kept
pub mod Last
