-- The lemmas of this crate.
pub mod Ascending
pub mod Cuts
pub mod Firsts
pub mod Fronts
pub mod LineSteps
pub mod Numbers
pub mod Opening
pub mod Pieces
pub mod Readables
