pub mod InOrder
pub mod Keys
pub mod Grouping
pub mod Gathered
mod Packing
