pub mod Orders
pub mod Sorted
pub mod Sending
pub mod Machine
pub mod Latest
