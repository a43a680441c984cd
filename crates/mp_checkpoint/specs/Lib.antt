-- What the contracts of this crate cite.
pub mod Firsts
pub mod Fitting
pub mod Items
pub mod Loose
pub mod Written
