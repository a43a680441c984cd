-- What a run tells of its steps, and of what its workers have done.
use Rattle.std.specs.Prelude.{ℕ, ◌≡◌, ◌≤◌, IsSome, IsSomeAnd, List, None, Option, length, map}
use Rattle.mp_names.specs.Outlines.{Outline}
use Rattle.mp_drive.specs.Below.{EndsAfter}
use Rattle.mp_model.specs.Facts.{JobFacts, QueryFacts}
use Rattle.mp_msg.specs.LastStates.{AreAllStates}
use Rattle.mp_msg.specs.States.{BinContent}
use Rattle.mp_outline.specs.JobOutline.{outline_of}
use Rattle.mp_tally.specs.declared.tally.Tally.{Tally}
use Rattle.mp_tally.specs.Tallies.{AreTalliesOf}
use Rattle.mp_words.specs.declared.options.Schedule.{Schedule}
use Rattle.mp_words.specs.declared.options.Schedule.TheVariants.{Threads, Seeded}
use Rattle.mp_words.specs.Values.{Options}
use Rattle.mp_command.specs.Config.{run_of}
use Rattle.mp_run_command.specs.declared.running.Ran.{Ran}
use Rattle.mp_run_command.specs.Keeping.{IsKeptOf}

-- the steps of threads aren't counted; by a seed so many are made as its schedule has at this depth
abbrev pub TellsSteps : Outline → ℕ → Schedule → Option ℕ → Type 0
TellsSteps o depth Threads steps = steps ≡ None
TellsSteps o depth (Seeded seed) steps = IsSomeAnd steps (λ n. EndsAfter o depth seed n)

module _ {Cell : Type 0} (q : QueryFacts Cell) (job : JobFacts) where
  -- What a run of a job tells that is run as the command asks, paced or not: how many steps were made by a seed, the job's tallies, and,
  -- where a journal is asked for, the steps that each worker kept, in no more lists than there are workers
  pub record TellsRun (asked : Options) (run : Ran) : Type 0 where
    pub made : TellsSteps (outline_of q (run_of asked.paced job)) asked.depth asked.schedule run.steps
    pub tallies : AreTalliesOf q job run.tallies.items
    pub kept : IsSome asked.journal → IsKeptOf q job asked (map (λ v. v.items) run.kept.items)
    pub lists : length run.kept.items ≤ job.shape.workers

  -- what a run that stops tells: the job's tallies, and what the bins that each worker owns have at the job's end
  pub record TellsStop (told : List Tally) (left : List (List (ℕ × BinContent Cell))) : Type 0 where
    pub tallies : AreTalliesOf q job told
    pub states : AreAllStates q job left
