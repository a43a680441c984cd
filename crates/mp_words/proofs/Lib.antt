pub mod Numbers
pub mod Faults
pub mod Powers
pub mod Tables
