-- What the crates above take of those below through this one.
pub use Rattle.mp_layout.proofs.FirstTable.{among_is_worker}
pub use Rattle.mp_layout.specs.Bins.{IsBinCount, bin_of_key, hash_of}
pub use Rattle.mp_layout.specs.Layouts.{FirstFits, IsShape, IsWithin, Layout, first_owner}
