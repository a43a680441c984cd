pub mod Names
pub mod Standing
pub mod Queues
pub mod Plain
