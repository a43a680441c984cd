pub mod Times
pub mod After
pub mod Same
pub mod Leaving
pub mod Sending
pub mod Noting
pub mod Settling
