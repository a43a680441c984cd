pub mod Ascents
pub mod Gathering
pub mod Members
pub mod Same
pub mod Sharing
