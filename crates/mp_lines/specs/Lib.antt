-- What the contracts of this crate cite.
pub mod Checks
pub mod Files
pub mod Limits
pub mod Refusals
pub mod Rules
