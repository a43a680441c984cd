pub mod Bins
pub mod Changes
pub mod Laws
pub mod Leaving
pub mod Notes
