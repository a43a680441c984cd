-- What the contracts of this crate cite.
pub mod Boxes
pub mod Messages
pub mod Held
pub mod Numbers
pub mod Seeing
pub mod Standings
pub mod Advancing
