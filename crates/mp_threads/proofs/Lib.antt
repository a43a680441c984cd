-- Lemmas.
pub mod Coming
pub mod Leaves
pub mod Keeping
pub mod Lists
pub mod Tallied
