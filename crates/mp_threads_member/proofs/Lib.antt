pub mod Driven
pub mod Stays
pub mod Written
pub mod Tried
pub mod Crossing
