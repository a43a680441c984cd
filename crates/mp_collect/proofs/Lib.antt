-- The lemmas of this crate.
pub mod Rising
pub mod Strict
pub mod Owned
pub mod Made
pub mod Posted
pub mod Left
pub mod Entries
pub mod Fitting
