-- The lemmas of this crate.
mod Cuts
