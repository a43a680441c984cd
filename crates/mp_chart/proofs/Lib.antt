pub mod Parts
pub mod Taking
pub mod Ending
pub mod Deciding
pub mod Changed
