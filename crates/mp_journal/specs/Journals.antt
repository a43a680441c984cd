-- What a journal says.
use Rattle.std.specs.Prelude.{ℕ, ◌++◌, Option, Some, None, Result, Ok, Err, List, [], ◌∷◌, replicate, slice_index_or, slice_set}
use Rattle.mp_journal.specs.declared.letters.Letter.{Letter}
use Rattle.mp_journal.specs.declared.refused.JournalReason.{JournalReason}
use Rattle.mp_journal.specs.Letters.{letter_of, step_of}
use Rattle.mp_journal.specs.Lines.{failures_of}
use Rattle.mp_lines.specs.Checks.{field_at, number_at}
use Rattle.mp_lines.specs.Files.{file_of}
use Rattle.mp_lines.specs.Rules.{LineRules}
use Rattle.mp_names.specs.declared.controls.Shape.{Shape}
use Rattle.mp_names.specs.declared.kinds.Kept.{Kept}

-- what lines said for a job of this shape: the worker of the last of them, 0 before the first, and by worker the steps, in their order
pub record Said : Type 0 where
  pub shape : Shape
  pub last : ℕ
  pub lists : List (List Kept)

-- no line said anything
abbrev pub nothing_said : Shape → Said
nothing_said shape = record { shape = shape; last = 0; lists = replicate shape.workers [] }

-- with a step of a worker
abbrev pub with_step : Said → ℕ → Kept → Said
with_step said worker step = record said { last = worker; lists = slice_set said.lists worker (slice_index_or said.lists worker [] ++ step ∷ []) }

-- with what a line says whose third field is a letter
abbrev pub with_line : Said → Option Letter → List (List ℕ) → Said
with_line said None fields = said
with_line said (Some letter) fields = with_step said (number_at fields 1) (step_of letter (number_at fields 3))

-- the checks that a line behind these fails, and what all say with it
abbrev pub journal_rules : LineRules Said JournalReason
journal_rules = record {
  failures = λ said fields. failures_of said.shape said.last fields;
  after = λ said fields. with_line said (letter_of (field_at fields 2)) fields;
}

-- the steps of what all lines said, unless a line is bad
abbrev pub lists_from : Result Said (ℕ × JournalReason) → Result (List (List Kept)) (ℕ × JournalReason)
lists_from (Ok said) = Ok said.lists
lists_from (Err bad) = Err bad

-- by worker the steps that a journal of a job of this shape says, or the number of its first line that fails a check and the first check
-- that this line fails
abbrev pub journal_of : List ℕ → Shape → Result (List (List Kept)) (ℕ × JournalReason)
journal_of text shape = lists_from (file_of journal_rules (nothing_said shape) text)
