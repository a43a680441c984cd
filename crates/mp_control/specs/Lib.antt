-- What the contracts of this crate cite.
pub mod Controls
pub mod Drains
pub mod Firsts
pub mod Kinds
pub mod Read
pub mod Reasons
pub mod SettingKinds
pub mod Settings
pub mod Values
pub mod VersionOne
