-- What the workers of a run keep of their steps.
use Rattle.std.specs.Prelude.{ℕ, List}
use Rattle.mp_model.specs.Facts.{JobFacts, QueryFacts}
use Rattle.mp_names.specs.Outlines.{Outline}
use Rattle.mp_names.specs.declared.kinds.Kept.{Kept}
use Rattle.mp_drive.specs.Below.{IsKeptBySchedule}
use Rattle.mp_outline.specs.JobOutline.{outline_of}
use Rattle.mp_threads.specs.Journals.{TellFullLogs}
use Rattle.mp_words.specs.declared.options.Schedule.{Schedule}
use Rattle.mp_words.specs.declared.options.Schedule.TheVariants.{Threads, Seeded}
use Rattle.mp_words.specs.Values.{Options}
use Rattle.mp_command.specs.Config.{run_of}

-- By a seed the steps that its schedule has at this depth. On threads, whose order isn't known, each worker has as many steps of a
-- kind as it has names of that kind, but of those that route, receive and exchange, and of writes worker 0 alone; and the versions
-- of its exchanges ascend
abbrev pub IsKeptBy : Outline → ℕ → Schedule → List (List Kept) → Type 0
IsKeptBy o depth Threads lists = TellFullLogs o lists
IsKeptBy o depth (Seeded seed) lists = IsKeptBySchedule o depth seed lists

-- the same of a job that is run as the command asks, paced or not
abbrev pub IsKeptOf : {Cell : Type 0} → QueryFacts Cell → JobFacts → Options → List (List Kept) → Type 0
IsKeptOf q job asked = IsKeptBy (outline_of q (run_of asked.paced job)) asked.depth asked.schedule
