-- The lemmas of this crate.
mod Counted
