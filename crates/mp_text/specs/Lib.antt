-- What the contracts of this crate cite.
pub mod Fields
pub mod Lines
pub mod NextLine
pub mod Numbers
