-- What the contracts of this crate cite.
pub mod Bins
pub mod FirstTable
pub mod Layouts
