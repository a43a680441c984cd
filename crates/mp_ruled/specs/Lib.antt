pub mod Ends
pub mod Rule
pub mod Passes
pub mod Own
pub mod Posts
pub mod Dealing
