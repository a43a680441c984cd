pub mod Recounted
pub mod Sameness
pub mod Adding
pub mod Elsewhere
pub mod Posting
pub mod Timed
pub mod Opened
pub mod GivenBack
