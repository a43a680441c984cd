-- The bytes of a sink, where it tells them, and what a write leaves alone.
use Rattle.std.specs.Prelude.{ℕ, ◌≡◌, ◌≤◌, List, [], ◌++◌, Option, None, option_map}
use Rattle.mp_outside.specs.Files.{Files}

-- the bytes written so far with more behind them, where they are told
unfoldable pub grown : Option (List ℕ) → List ℕ → Option (List ℕ)
grown written more = option_map (λ bytes. bytes ++ more) written

-- What a sink has beside its bytes and its count, none of which a write changes.
pub record Beside : Type 0 where
  -- the reference that it writes through, by its name in proofs
  pub lender : ℕ
  -- the name of the file that it writes
  pub name : List ℕ
  -- the other files, where they are told
  pub others : Option Files
  pub read_faults : ℕ

-- a sink that is all that it writes to
abbrev pub nothing_beside : Beside
nothing_beside = record { lender = 0; name = []; others = None; read_faults = 0 }

module _ {S : Type 0} (frame : S → Beside) (faults : S → ℕ) where
  -- what the sink has beside its bytes is as it was, and the count of faults doesn't fall
  pub record OnlyAppends (old new : S) : Type 0 where
    pub same_frame : frame new ≡ frame old
    pub faults_grow : faults old ≤ faults new
