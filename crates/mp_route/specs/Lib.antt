-- What the contracts of this crate cite.
pub mod Routed
pub mod Unsent
pub mod Along
pub mod Sending
pub mod Laws
