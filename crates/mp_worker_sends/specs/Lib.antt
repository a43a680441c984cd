-- What the contracts of this crate cite.
pub mod Below
pub mod Leaving
pub mod Rooms
