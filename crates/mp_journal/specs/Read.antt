-- What is kept of a line that fails no check.
use Rattle.std.specs.Prelude.{◌≡◌, ◌<◌, ℕ, List, Some}
use Rattle.mp_journal.specs.declared.letters.Letter.{Letter}
use Rattle.mp_journal.specs.declared.line.JournalLine.{JournalLine}
use Rattle.mp_journal.specs.Letters.{letter_of, step_of}
use Rattle.mp_lines.specs.Checks.{field_at, number_at}
use Rattle.mp_names.specs.declared.controls.Shape.{Shape}

-- The job has the worker, and the step is that of the letter and the number behind it
pub record IsLineOf (shape : Shape) (letter : Letter) (fields : List (List ℕ)) (line : JournalLine) : Type 0 where
  pub fits : line.worker < shape.workers
  pub worker : line.worker ≡ number_at fields 1
  pub step : line.step ≡ step_of letter (number_at fields 3)

-- the same of the letter that the fields have
abbrev pub IsReadLine : Shape → List (List ℕ) → JournalLine → Type 0
IsReadLine shape fields line = (letter : Letter) × (letter_of (field_at fields 2) ≡ Some letter) × IsLineOf shape letter fields line
