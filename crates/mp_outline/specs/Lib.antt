-- What the contracts of this crate cite.
pub mod Below
pub mod JobOutline
pub mod Laws
