-- What a step that can't be made now comes to.
use Rattle.std.proofs.Common.{◌≡◌, ℕ, [], ◌∷◌, List, Option, Ok, arith, refl}
use Rattle.mp_names.specs.declared.kinds.Kind.{Kind}
use Rattle.mp_names.specs.Outlines.{Outline}
use Rattle.mp_outside.specs.Sink.{Beside}
use Rattle.mp_model.specs.Facts.{JobFacts, QueryFacts}
use Rattle.mp_machine.specs.Runs.{NotNow, made_count}
use Rattle.mp_worker_refinement.specs.SystemState.{SystemState}
use Rattle.mp_worker.specs.Below.turn as worker
use Rattle.mp_plain.specs.Driven.{Driven, LeadsOn}
use Rattle.mp_plain.specs.Driving.{MakesStep, StepLeaves}
use Rattle.mp_plain.proofs.Appended.{appends_none}

module _ (o : Outline) (w : ℕ) (kind : Kind) (p : Driven) where
  pub step_idles : LeadsOn o ((w, kind) ∷ []) (NotNow ∷ []) p.state p.state → MakesStep o w kind (Ok worker.NotNow) p p
  step_idles idle = record { turn = idle; unchanged = tt; counted = let none : made_count (NotNow ∷ []) ≡ 0 = refl in omega (arith, none); not_busy = λ e. cc }

module _ {Cell S : Type 0} (q : QueryFacts Cell) (job : JobFacts) (written : S → Option (List ℕ)) (faults : S → ℕ) (frame : S → Beside) (kind : Kind) (t : SystemState) (s : S) where
  pub idle_leaves : StepLeaves q job written faults frame kind (Ok worker.NotNow) t t s s
  idle_leaves = record { lines = λ before h. h; part = λ before h. tt; failed = λ e. absurd (cc); no_fault = λ n. refl; appends = appends_none frame faults s }
