pub mod Earlier
pub mod Among
pub mod Climbing
pub mod Roots
pub mod Same
