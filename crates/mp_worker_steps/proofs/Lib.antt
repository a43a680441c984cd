pub mod Ingested
pub mod Settled
pub mod Written
