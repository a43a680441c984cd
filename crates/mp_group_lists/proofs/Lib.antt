pub mod Runs
pub mod InTurn
pub mod Rows
pub mod Giving
pub mod Held
