-- What the contracts of this crate cite.
pub mod Cells
pub mod Numbers
pub mod Openings
pub mod States
