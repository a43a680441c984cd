pub mod Applied
pub mod Counted
pub mod Fitting
pub mod OneByOne
