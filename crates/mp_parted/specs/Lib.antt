-- What the contracts of this crate cite.
pub mod Fitting
pub mod Parted
