pub mod Bundled
mod SentControls
mod Extracting
pub mod Kept
mod LeavingPackets
