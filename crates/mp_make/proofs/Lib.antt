-- The lemmas of this crate.
mod Legal
mod PlainNames
