-- What the contracts of this crate cite.
pub mod FirstWakes
pub mod Spans
