-- What the contracts of this crate cite.
pub mod Controls
pub mod Tables
