pub mod Followed
pub mod Picked
pub mod Refusing
pub mod Tried
