-- What the contracts of this crate cite.
pub mod State
pub mod Ends
pub mod Served
pub mod Steps
pub mod Mail
pub mod Sending
pub mod SystemState
pub mod Laws
