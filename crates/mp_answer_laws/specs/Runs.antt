-- What a whole run leaves in a sink.
use Rattle.std.specs.Prelude.{◌≡◌, ◌≢◌, ℕ, List, Option, Result, Err, OnErr, OnOk}
use Rattle.mp_outside.specs.Fault.{Rose}
use Rattle.mp_outside.specs.Sink.{Beside, OnlyAppends, grown}
use Rattle.mp_model.specs.Answers.{one_thread_answer}
use Rattle.mp_model.specs.Facts.{JobFacts, QueryFacts}
use Rattle.mp_board.specs.declared.causes.Cause.{Cause}
use Rattle.mp_board.specs.declared.causes.Cause.TheVariants.{Write}
use Rattle.mp_answer_laws.specs.Lines.{HasBegun}

module _ {Cell S : Type 0} (q : QueryFacts Cell) (job : JobFacts) (written : S → Option (List ℕ)) (faults : S → ℕ) (frame : S → Beside) where
  -- A run that ended has written the one-thread answer, one that stopped a beginning of it. The sink's count of faults rose where a write failed, and nowhere else
  pub record RunLeaves {V : Type 0} (result : Result V Cause) (had has : S) : Type 0 where
    pub whole : OnOk result (written has ≡ grown (written had) (one_thread_answer q job.events))
    pub part : OnErr result (HasBegun q job.events (written had) (written has))
    pub failed : result ≡ Err Write → Rose (faults had) (faults has)
    pub no_fault : result ≢ Err Write → faults has ≡ faults had
    pub appends : OnlyAppends frame faults had has
