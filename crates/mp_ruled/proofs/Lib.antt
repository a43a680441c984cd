pub mod Prefixes
pub mod Places
pub mod Keeps
pub mod Answered
pub mod Posted
pub mod Dealt
