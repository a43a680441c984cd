-- What the contracts of this crate cite.
pub mod Below
pub mod Entries
pub mod Falls
pub mod Links
pub mod NameLinks
pub mod NameFalls
pub mod Lists
pub mod Opening
pub mod WorkerLog
