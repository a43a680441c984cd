-- Lemmas.
pub mod Full
pub mod Lists
pub mod Packets
pub mod Told
