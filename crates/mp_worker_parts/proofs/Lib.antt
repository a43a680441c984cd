pub mod Begun
pub mod Keeping
pub mod LastStates
pub mod Tallied
