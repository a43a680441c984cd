pub mod Places
pub mod Keeps
pub mod Dealing
pub mod Turns
pub mod Gathering
pub mod Sorting
