-- What the crates above take of those below through this one.
pub mod Below
