-- What the crates above take of those below through this one.
pub use Rattle.mp_opening.specs.Below.{IsBinCount, Layout, among_is_worker, bin_of_key, first_owner, hash_of}
