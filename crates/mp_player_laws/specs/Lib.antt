-- What the contracts of this crate cite.
pub mod Decisions
pub mod WorkLeft
pub mod Numbers
pub mod Counted
pub mod Rising
pub mod Held
pub mod Exchanging
pub mod Made
pub mod Changing
