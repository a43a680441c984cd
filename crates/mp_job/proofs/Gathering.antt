-- What stands among the times: what the crates above take through this one.
pub use Rattle.mp_shares.proofs.Gathering.{times_have}
