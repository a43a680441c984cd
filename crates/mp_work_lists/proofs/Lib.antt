pub mod Sums
pub mod Working
pub mod Growing
pub mod Settling
pub mod Joining
