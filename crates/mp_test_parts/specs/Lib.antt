-- What the tests cite.
pub mod Hosts
pub mod Parts
pub mod Quiet
