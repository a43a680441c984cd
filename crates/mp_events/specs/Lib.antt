-- What the contracts of this crate cite.
pub mod Events
pub mod Kinds
pub mod Lines
pub mod Pieces
pub mod Read
pub mod Reasons
pub mod Usual
pub mod Written
