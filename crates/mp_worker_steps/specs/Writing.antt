-- What a write leaves of the answer in a sink.
use Rattle.std.specs.Prelude.{◌≡◌, ◌⊎◌, ℕ, List, Ok, Err, Option, None, Some, take}
use Rattle.std.specs.declared.result.Result.{Result}
use Rattle.mp_names.specs.declared.kinds.Kind.TheVariants.{Write}
use Rattle.mp_names.specs.declared.names.Name.{Name}
use Rattle.mp_names.specs.declared.names.Name.TheVariants.{Written}
use Rattle.mp_outside.specs.Fault.{Rose}
use Rattle.mp_outside.specs.Sink.{grown}
use Rattle.mp_model.specs.Facts.{JobFacts, QueryFacts}
use Rattle.mp_outline.specs.JobOutline.{outline_of}
use Rattle.mp_msg.specs.declared.names.Names.{Names}
use Rattle.mp_output.specs.declared.refused.OutRefused.{OutRefused}
use Rattle.mp_output.specs.declared.refused.OutRefused.TheVariants.{WriteFault, NoMemory}
use Rattle.mp_output.specs.Holding.{answer_at}
use Rattle.mp_answer_laws.specs.Lines.{lines_of_time}
use Rattle.mp_worker_refinement.specs.State.{CanMake, WorkerState}

-- a part, from the front, of the lines of the time that the worker would write
abbrev pub WritesPart : {Cell : Type 0} → QueryFacts Cell → JobFacts → WorkerState → (old new : Option (List ℕ)) → Type 0
WritesPart q job s old new =
    (t n : ℕ) × CanMake (outline_of q job) Write s (Written t) × (new ≡ grown old (take n (answer_at q job.events t)))

module _ {Cell S : Type 0} (q : QueryFacts Cell) (job : JobFacts) (written : S → Option (List ℕ)) (faults : S → ℕ) (s : WorkerState) (old new : S) where
  -- nothing is written, or a part
  abbrev pub WritesNoMore : Type 0
  WritesNoMore = (written new ≡ written old) ⊎ WritesPart q job s (written old) (written new)

  -- the lines of the time are written
  abbrev pub WritesTime : Name → Type 0
  WritesTime x = written new ≡ grown (written old) (lines_of_time q job.events x)

  -- what a write came to: all lines of a time, or nothing; or no more than a part, where a write failed or there was no memory. Only one that failed counts a fault
  abbrev pub Writes : Result (Option Names) OutRefused → Type 0
  Writes (Ok (Some told)) = WritesTime told.first × (faults new ≡ faults old)
  Writes (Ok None) = new ≡ old
  Writes (Err WriteFault) = WritesNoMore × Rose (faults old) (faults new)
  Writes (Err NoMemory) = WritesNoMore × (faults new ≡ faults old)
