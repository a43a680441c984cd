-- The lemmas of this crate.
mod FieldSteps
pub mod FieldsRead
pub mod LimitSteps
pub mod Said
mod SoFar
pub mod Starts
