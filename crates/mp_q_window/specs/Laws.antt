-- The tables of q5 and q7 keep the laws of a query, whatever the values of their rules. This folder is proofs.
pub mod Q5
pub mod Q7
pub mod Settled
