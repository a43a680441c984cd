pub mod Stable
pub mod Filters
pub mod InTurn
pub mod Told
pub mod Paced
pub mod Adding
pub mod Fitting
pub mod Sorting
