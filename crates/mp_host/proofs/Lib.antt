pub mod Kept
pub mod WakesOf
mod FirstRun
pub mod Standing
pub mod Told
pub mod Enough
pub mod Unwoken
pub mod Woken
mod Present
pub mod Tallied
pub mod Grouped
pub mod Moved
pub mod Several
pub mod FirstWakes
pub mod LastStates
