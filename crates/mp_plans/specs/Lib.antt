-- What the contracts of this crate cite.
pub mod Drains
pub mod Plans
pub mod Refusals
