-- What the contracts of this crate cite.
pub mod Answers
pub mod Boards
pub mod Opening
pub mod Passing
pub mod Soundness
pub mod Totals
