-- What a call of a depot leaves as it was.
use Rattle.std.specs.Prelude.{ℕ, ◌≡◌, ◌≤◌, Option}
use Rattle.mp_outside.specs.Files.{Files}

module _ {D : Type 0} (files : D → Option Files) (read_faults write_faults : D → ℕ) where
  -- the files and the count of write faults are as they were, and that of read faults doesn't fall
  pub record OnlyReads (old new : D) : Type 0 where
    pub same_files : files new ≡ files old
    pub reads_grow : read_faults old ≤ read_faults new
    pub same_writes : write_faults new ≡ write_faults old

module _ {D : Type 0} (read_faults write_faults : D → ℕ) where
  -- the count of read faults is as it was, and that of write faults doesn't fall
  pub record OnlyWrites (old new : D) : Type 0 where
    pub same_reads : read_faults new ≡ read_faults old
    pub writes_grow : write_faults old ≤ write_faults new
