-- What the contracts of this crate cite.
pub mod Cut
pub mod Folded
pub mod Listed
pub mod Packets
