mod Blocked
mod Changed
mod Dropped
mod Edited
pub mod Fronts
mod Halving
mod Nearest
pub mod Placed
pub mod Placing
mod Rows
