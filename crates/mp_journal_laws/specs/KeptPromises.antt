-- What holds of kept steps: for each outline, each depth of the mailboxes and each list of steps.
use Rattle.std.specs.Prelude.{◌≡◌, ℕ, ◌<◌, List, ◌++◌, length}
use Rattle.mp_names.specs.Outlines.{Outline, OutlineIsSound}
use Rattle.mp_names.specs.Logs.{Log, LogIsLegal}
use Rattle.mp_names.specs.declared.kinds.Kept.{Kept}
use Rattle.mp_names.specs.declared.kinds.Kind.{Kind}
use Rattle.mp_machine.specs.Promises.{LogIsFull}
use Rattle.mp_machine.specs.Runs.{IsFinished, made_count, run_of_machine, turns_of, world_after}
use Rattle.mp_machine.specs.Worlds.{World, start_of_machine}
use Rattle.mp_journal_laws.specs.Merges.{IsLegalMerge}
use Rattle.mp_journal_laws.specs.Kept.{kept_of}
use Rattle.mp_journal_laws.specs.Telling.{KeptTellFullLog, KeptTellLog}

-- more steps add what is kept of them
abbrev pub KeptGrow : Type 0
KeptGrow =
    (o : Outline) (depth : ℕ) (world : World) (steps more : List (ℕ × Kind)) (w : ℕ)
    → kept_of o depth world (steps ++ more) w ≡ kept_of o depth world steps w ++ kept_of o depth (world_after o depth world steps) more w

-- The steps of all workers in the order of a run: a legal merge of what each has kept, of so many steps as were made
pub record MergeOfRun (o : Outline) (depth : ℕ) (steps : List (ℕ × Kind)) : Type 0 where
  pub merge : List (ℕ × Kept)
  pub legal : IsLegalMerge o depth (λ w. kept_of o depth (start_of_machine o) steps w) merge
  pub many : length merge ≡ made_count (turns_of o depth (start_of_machine o) steps)

-- where all is over after a run, what its workers have kept has a legal merge
abbrev pub FinishedRunsAreLegal : Type 0
FinishedRunsAreLegal = (o : Outline) (depth : ℕ) (steps : List (ℕ × Kind)) → IsFinished o (run_of_machine o depth steps) → MergeOfRun o depth steps

-- steps that filled a full log are, by kind, as many as the worker has to do
abbrev pub FullLogsAreTold : Type 0
FullLogsAreTold =
    (o : Outline) (w : ℕ) (log : Log) (kept : List Kept)
    → OutlineIsSound o
    → w < o.workers
    → LogIsLegal o w log
    → LogIsFull o w log
    → KeptTellLog log kept
    → KeptTellFullLog o w kept
