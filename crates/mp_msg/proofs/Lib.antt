pub mod Cells
pub mod Messages
pub mod Ordered
pub mod Owed
pub mod Sorted
pub mod States
pub mod Telling
