pub mod Fitting
pub mod Adding
