-- The lemmas of this crate.
pub mod Front
mod Handing
