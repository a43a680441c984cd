pub mod Begun
pub mod Made
