pub mod FirstWakes
pub mod Spanned
mod Within
