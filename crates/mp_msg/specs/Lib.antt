-- What the contracts of this crate cite.
pub mod Below
pub mod States
pub mod LastStates
pub mod Contents
pub mod Bundles
pub mod Bodies
pub mod Laws
