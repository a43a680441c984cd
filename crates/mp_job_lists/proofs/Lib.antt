-- The lemmas of this crate.
mod Cuts
mod Lines
mod Making
mod Packets
mod Stages
mod Unwoken
