-- The lemmas of this crate.
pub mod Parted
pub mod Lines
pub mod Prefixes
pub mod Telling
pub mod Formats
