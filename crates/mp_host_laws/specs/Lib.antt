-- What the contracts of this crate cite.
pub mod Hosted
pub mod Applying
pub mod Moving
pub mod HostOf
pub mod Laws
pub mod Last
