-- What holds of the files of checkpoints.
use Rattle.std.specs.Prelude.{◌≡◌, ◌≢◌, ◌<◌, ◌^◌, ◌++◌, ℕ, List, All, length, true}
use Rattle.mp_opening.specs.Checkpoints.{CheckpointOf}
use Rattle.mp_checkpoint_laws.specs.Files.{Format, IsFileOf}

module _ {Cell : Type 0} where
  -- all numbers of a format have 64 bits, and no line feed stands in the text of a cell that may be saved
  pub record FormatIsPlain (f : Format Cell) : Type 0 where
    pub number : f.number < 2 ^ 64
    pub values : All (λ n. n < 2 ^ 64) f.values
    pub stages : f.stages < 2 ^ 64
    pub text : (j k t : ℕ) (c : Cell) → f.allows j k t c ≡ true → All (λ b. b ≢ 10) (f.text j c)

  -- the text of a cell that may be saved tells the cell
  abbrev pub TextsTell : Format Cell → Type 0
  TextsTell f = (j k t : ℕ) (c d : Cell) → f.allows j k t c ≡ true → f.allows j k t d ≡ true → f.text j c ≡ f.text j d → c ≡ d

  -- a file that lacks a part at its end is no file
  abbrev pub CutFilesAreRefused : Format Cell → Type 0
  CutFilesAreRefused f = (c d : CheckpointOf Cell) (front rest : List ℕ) → length (front ++ rest) < 2 ^ 64 → IsFileOf f c (front ++ rest) → 0 < length rest → IsFileOf f d front → ⊥

  -- a file is that of one checkpoint
  abbrev pub FilesTellCheckpoints : Format Cell → Type 0
  FilesTellCheckpoints f = (c d : CheckpointOf Cell) (bytes : List ℕ) → length bytes < 2 ^ 64 → IsFileOf f c bytes → IsFileOf f d bytes → c ≡ d
