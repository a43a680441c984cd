pub mod ByName
pub mod ByTime
pub mod Runs
pub mod Written
