-- What the contracts of this crate cite.
pub mod Reasons
pub mod Letters
pub mod Lines
pub mod Journals
pub mod Read
pub mod Written
