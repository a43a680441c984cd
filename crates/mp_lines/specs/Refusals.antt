-- Refusals of lines and of files.
use Rattle.std.specs.Prelude.{ℕ}
use Rattle.mp_lines.specs.declared.refused.FileRefused.{FileRefused}
use Rattle.mp_lines.specs.declared.refused.FileRefused.TheVariants.{BadLine, NoMemory as NoMemoryForFile}
use Rattle.mp_lines.specs.declared.refused.LineRefused.{LineRefused}
use Rattle.mp_lines.specs.declared.refused.LineRefused.TheVariants.{Bad, NoMemory}

module _ {Reason : Type 0} where
  -- what is said of a check that a line fails; want of memory says nothing of the line
  abbrev pub IfBad : LineRefused Reason → (Reason → Type 0) → Type 0
  IfBad (Bad why) P = P why
  IfBad NoMemory P = Unit {0}

  -- what is said of a bad line; want of memory says nothing of the file
  abbrev pub IfBadLine : FileRefused Reason → (ℕ → Reason → Type 0) → Type 0
  IfBadLine (BadLine line why) P = P line why
  IfBadLine NoMemoryForFile P = Unit {0}

  -- the refusal of a file for its line of this number
  abbrev pub refused_at : ℕ → LineRefused Reason → FileRefused Reason
  refused_at line (Bad why) = BadLine line why
  refused_at line NoMemory = NoMemoryForFile
