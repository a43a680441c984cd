pub mod NameLists
pub mod Queued
pub mod Cases
