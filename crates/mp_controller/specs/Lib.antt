-- What the contracts of this crate cite.
pub mod Cursors
pub mod Controlling
pub mod Telling
pub mod Turns
