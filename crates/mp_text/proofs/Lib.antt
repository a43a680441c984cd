-- The lemmas of this crate.
mod FieldEnds
pub mod FieldLemmas
mod FirstByte
pub mod LineLemmas
pub mod NumberLemmas
