-- What the crates above take of the bins of keys through this one.
pub use Rattle.mp_layout.specs.Bins.{IsBinCount, bin_of_key, hash_of}
