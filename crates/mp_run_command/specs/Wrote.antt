-- What a run leaves.
use Rattle.std.specs.Prelude.{◌≡◌, ◌⊎◌, List, Option, Result, IfErr, OnErr, OnOk, Some, ℕ}
use Rattle.mp_model.specs.Facts.{JobFacts, QueryFacts}
use Rattle.mp_outside.specs.Fault.{Rose}
use Rattle.mp_outside.specs.Files.{Files}
use Rattle.mp_words.specs.Values.{Options}
use Rattle.mp_words.specs.Words.{Run}
use Rattle.mp_command_files.specs.declared.refusal.Refusal.{Refusal}
use Rattle.mp_command.specs.Audits.{bad_checkpoint_of}
use Rattle.mp_command_files.specs.Outcome.{StopsAnswer}
use Rattle.mp_command_files.specs.Refused.{EndsAs, outcome_of}
use Rattle.mp_command.specs.Spans.{IsRefutedBy}
use Rattle.mp_command.specs.Writing.{IsTextInSpan, Purpose, Target, WritesAll, WritesSome, targets_of}
use Rattle.mp_run_command.specs.Keeping.{IsKeptOf}

-- what the files hold where a run ends so: each target its text; or, where it was stopped, some of them, and of one a part
pub record Wrote {T E : Type 0} (IsText : Purpose → List ℕ → Type 0) (targets : List Target) (end : Result T E) (old new : Option Files) : Type 0 where
  pub whole : OnOk end (WritesAll IsText targets old new)
  pub part : OnErr end (WritesSome IsText targets old new)

-- A depot, by its files and its count of the faults of writes
module _ {D : Type 0} (files : D → Option Files) (write_faults : D → ℕ) where
  -- How the run of a job ends: its files are written; or it was stopped, for want of memory, or by a write, and then the count of faults
  -- rose
  pub record Writes {T : Type 0} (IsText : Purpose → List ℕ → Type 0) (asked : Options) (end : Result T Refusal) (old new : D) : Type 0 where
    pub wrote : Wrote IsText (targets_of (Run asked)) end (files old) (files new)
    pub refused : IfErr end (λ r. StopsAnswer (outcome_of r))
    pub failed : IfErr end (λ r. EndsAs r 7 → Rose (write_faults old) (write_faults new))

  -- How a command's run ends: its files are written; or it was stopped; or what it goes on from is refuted, and then nothing has changed
  pub record EndsRun {T : Type 0} (IsText : Purpose → List ℕ → Type 0) (IsRefuted : Type 0) (asked : Options) (end : Result T Refusal) (old new : D) : Type 0 where
    pub wrote : Wrote IsText (targets_of (Run asked)) end (files old) (files new)
    pub refused : IfErr end (λ r. StopsAnswer (outcome_of r) ⊎ ((bad_checkpoint_of asked.span ≡ Some (outcome_of r)) × IsRefuted × (files new ≡ files old)))
    pub failed : IfErr end (λ r. EndsAs r 7 → Rose (write_faults old) (write_faults new))

  -- the same of a query, by its number, the texts of its cells and its table, with these values of its rules: of its job in the span that is
  -- asked for, with the bytes of the checkpoint that it goes on from
  abbrev pub EndsInSpan : {Cell T : Type 0} → ℕ → (ℕ → Cell → List ℕ) → (List ℕ → QueryFacts Cell) → List ℕ → JobFacts → List ℕ → Options → Result T Refusal → D → D → Type 0
  EndsInSpan number text facts values job bytes asked end old new =
      EndsRun (IsTextInSpan number text facts values asked.span bytes job (IsKeptOf (facts values) job asked)) (IsRefutedBy number text facts values asked.span bytes) asked end old new
