-- What a call that drives workers on one thread comes to: for the machine, and in the sink.
use Rattle.std.specs.Prelude.{◌≡◌, ◌≢◌, ℕ, ◌+◌, List, [], ◌∷◌, All, Option, Result, Err, IfOk, OnErr, OnOk, map}
use Rattle.mp_names.specs.declared.kinds.Kind.{Kind}
use Rattle.mp_names.specs.declared.kinds.Kind.TheVariants as kinds
use Rattle.mp_names.specs.Outlines.{Outline}
use Rattle.mp_outside.specs.Fault.{Rose}
use Rattle.mp_outside.specs.Sink.{Beside, OnlyAppends, grown}
use Rattle.mp_model.specs.Facts.{JobFacts, QueryFacts}
use Rattle.mp_machine.specs.Runs.{made_count}
use Rattle.mp_worker_refinement.specs.SystemState.{SystemState}
use Rattle.mp_answer_laws.specs.Lines.{HasBegun}
use Rattle.mp_worker.specs.Below.{Turn as Answered}
use Rattle.mp_worker.specs.Below.turn.{Busy}
use Rattle.mp_board.specs.declared.causes.Cause.{Cause}
use Rattle.mp_board.specs.declared.causes.Cause.TheVariants.{Write}
use Rattle.mp_plain.specs.Driven.{Driven, HasKept, HasWritten, LeadsOn, Steps, made_by, turn_in}

-- The turn of a worker's step leads on, and the step is counted where it is made. The turn is never `Busy`. Where the step is refused none is made
pub record MakesStep (o : Outline) (worker : ℕ) (kind : Kind) (result : Result Answered Cause) (old new : Driven) : Type 0 where
  pub turn : IfOk result (λ turn. LeadsOn o ((worker, kind) ∷ []) (turn_in turn ∷ []) old.state new.state)
  pub unchanged : OnErr result (LeadsOn o [] [] old.state new.state)
  pub counted : new.made ≡ old.made + made_by result
  pub not_busy : IfOk result (λ turn. turn ≢ Busy)

-- The turns of a list of steps lead on, and those that are made are counted. No turn is `Busy`
pub record MakesSteps (o : Outline) (steps : Steps) (turns : List Answered) (old new : Driven) : Type 0 where
  pub lead : LeadsOn o steps (map turn_in turns) old.state new.state
  pub counted : new.made ≡ old.made + made_count (map turn_in turns)
  pub not_busy : All (λ turn. turn ≢ Busy) turns

module _ {Cell S : Type 0} (q : QueryFacts Cell) (job : JobFacts) (written : S → Option (List ℕ)) (faults : S → ℕ) (frame : S → Beside) where
  -- A step of this kind, made or not, leaves the lines that worker 0 has written; only a write that is refused may have begun the next ones. The sink's count of faults rose where a write failed, and nowhere else
  pub record StepLeaves (kind : Kind) (result : Result Answered Cause) (old new : SystemState) (had has : S) : Type 0 where
    pub lines : (before : Option (List ℕ)) → HasWritten q job.events before old (written had) → OnOk result (HasWritten q job.events before new (written has))
    pub part : (before : Option (List ℕ)) → HasWritten q job.events before old (written had) → OnErr result (HasKept q job.events kind before new (written has))
    pub failed : result ≡ Err Write → (kind ≡ kinds.Write) × Rose (faults had) (faults has)
    pub no_fault : result ≢ Err Write → faults has ≡ faults had
    pub appends : OnlyAppends frame faults had has

  -- On top of what was there before worker 0 wrote, a call that ends leaves these lines, and one that is refused a beginning of the one-thread answer. The sink's count of faults rose where a write failed, and nowhere else
  pub record DriveLeaves {V : Type 0} (result : Result V Cause) (lines : List ℕ) (old : SystemState) (had has : S) : Type 0 where
    pub whole : (before : Option (List ℕ)) → HasWritten q job.events before old (written had) → OnOk result (written has ≡ grown before lines)
    pub part : (before : Option (List ℕ)) → HasWritten q job.events before old (written had) → OnErr result (HasBegun q job.events before (written has))
    pub failed : result ≡ Err Write → Rose (faults had) (faults has)
    pub no_fault : result ≢ Err Write → faults has ≡ faults had
    pub appends : OnlyAppends frame faults had has
