-- What the contracts of this crate cite.
pub mod Keys
pub mod MoversState
pub mod MoversOf
pub mod Due
pub mod Laws
