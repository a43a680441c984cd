-- What stands in shares: what the crates above take through this one.
pub use Rattle.mp_shares.proofs.Sharing.{record_is_there, record_of_place}
