-- The lemmas of this crate.
mod Ended
mod Handed
mod Kept
mod Targets
