-- What a judgement of a journal and an answer says.
use Rattle.std.specs.Prelude.{◌≡◌, ◌⊎◌, ℕ, Bool, Err, IfOk, List, OnOk, Result}
use Rattle.mp_audit.specs.declared.searching.AuditStop.{AuditStop}
use Rattle.mp_audit.specs.declared.searching.AuditStop.TheVariants.{NoRun}
use Rattle.mp_audit.specs.Going.{HasLegalMerge, HasNone}
use Rattle.mp_audit.specs.Lists.{list_of}
use Rattle.mp_command.specs.Config.{run_of}
use Rattle.mp_model.specs.Answers.{one_thread_answer}
use Rattle.mp_model.specs.Facts.{JobFacts, QueryFacts}
use Rattle.mp_names.specs.declared.kinds.Kept.{Kept}
use Rattle.mp_outline.specs.JobOutline.{outline_of}

-- Of a journal and an answer the result says: a number of steps, that the journal has a legal merge of so many, and the answer is the
-- one-thread answer; `NoRun`, that the journal has no legal merge, or the answer isn't the one-thread answer
pub record Judges {Cell : Type 0} (q : QueryFacts Cell) (job : JobFacts) (depth : ℕ) (paced : Bool) (journal : List (List Kept)) (answer : List ℕ) (result : Result ℕ AuditStop) : Type 0 where
  pub merge : IfOk result (HasLegalMerge (outline_of q (run_of paced job)) depth (list_of journal))
  pub answers : OnOk result (answer ≡ one_thread_answer q job.events)
  pub none : result ≡ Err NoRun → HasNone (outline_of q (run_of paced job)) depth (list_of journal) ⊎ (answer ≡ one_thread_answer q job.events → ⊥)
