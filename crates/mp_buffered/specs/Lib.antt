pub mod Beside
pub mod Waiting
