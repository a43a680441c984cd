-- The journal of a run: the steps that its workers kept, as lines.
use Rattle.std.specs.Prelude.{ℕ, List, length, slice_index_or, []}
use Rattle.mp_journal.specs.Written.{lines_of_steps}
use Rattle.mp_names.specs.declared.kinds.Kept.{Kept}
use Rattle.mp_names.specs.Names.{joined_below}

-- the lines of so many workers' steps, worker by worker
abbrev pub journal_lines : List (List Kept) → ℕ → List ℕ
journal_lines lists workers = joined_below workers (λ w. lines_of_steps w (slice_index_or lists w []))

-- those of all workers
abbrev pub journal_text : List (List Kept) → List ℕ
journal_text lists = journal_lines lists (length lists)
