-- The first wakes of bins.
use Rattle.std.specs.Prelude.{◌≡◌, ◌<◌, ◌==◌, ℕ, List, None, Option, filter, length, slice_index_or}
use Rattle.mp_host_laws.specs.declared.held.Held.{Held}
use Rattle.mp_host_laws.specs.Hosted.{first_wake_of}

module _ {Cell : Type 0} where
  -- the states of a bin
  abbrev pub of_bin : ℕ → List (Held Cell) → List (Held Cell)
  of_bin b held = filter (λ s. s.bin == b) held

  -- For each of so many bins the first wake of its states
  pub record AreFirsts (bins : ℕ) (firsts : List (Option (ℕ × ℕ))) (held : List (Held Cell)) : Type 0 where
    pub count : length firsts ≡ bins
    pub each : (b : ℕ) → b < bins → slice_index_or firsts b None ≡ first_wake_of (of_bin b held)
