-- Numbers in order, each once: what the crates above take through this one.
pub use Rattle.mp_shares.proofs.Ascents.{Contains-ascending, IsStrictlyIncreasing-ascending, Rises, Rises-ascending, ascending-Contains, same_rising}
