-- What the contracts of this crate cite.
pub mod Hosts
pub mod Moves
pub mod Ready
pub mod Receiving
pub mod Telling
pub mod Waiting
