-- What the contracts of this crate cite.
pub mod Left
pub mod Lists
pub mod Entries
