-- What the contracts of this crate cite.
pub mod Shows
pub mod Routing
