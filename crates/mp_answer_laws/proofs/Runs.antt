-- What a whole run leaves in a sink, by how it ends.
use Rattle.std.proofs.Common.{◌≡◌, ◌≢◌, ℕ, List, Option, Ok, Err, length, sym, ap, ◌∙◌, arith}
use Rattle.std.specs.declared.result.Result.{Result}
use Rattle.std.proofs.Math.Seq.{take-length}
use Rattle.mp_outside.specs.Fault.{Rose}
use Rattle.mp_outside.specs.Sink.{Beside, OnlyAppends, grown}
use Rattle.mp_outside.proofs.SinkLemmas.{grown-nothing}
use Rattle.mp_model.specs.Answers.{one_thread_answer}
use Rattle.mp_model.specs.Facts.{JobFacts, QueryFacts}
use Rattle.mp_board.specs.declared.causes.Cause.{Cause}
use Rattle.mp_board.specs.declared.causes.Cause.TheVariants.{Write, Memory}
use Rattle.mp_answer_laws.specs.Lines.{HasBegun}
use Rattle.mp_answer_laws.specs.Runs.{RunLeaves}

same_cause : {V : Type 0} (a b : Cause) → ◌≡◌ {A = Result V Cause} (Err a) (Err b) → a ≡ b
same_cause a b e = cc

module _ {Cell S : Type 0} (q : QueryFacts Cell) (job : JobFacts) (written : S → Option (List ℕ)) (faults : S → ℕ) (frame : S → Beside) where
  -- a run that ended
  pub ended : {V : Type 0} (v : V) (had has : S) → written has ≡ grown (written had) (one_thread_answer q job.events) → faults has ≡ faults had → OnlyAppends frame faults had has → RunLeaves q job written faults frame (Ok v) had has
  ended v had has whole quiet appends = record { whole = whole; part = tt; failed = λ e. absurd (cc); no_fault = λ n. quiet; appends = appends }

  -- a run that stopped by this cause
  pub stopped : {V : Type 0} (why : Cause) (had has : S) → HasBegun q job.events (written had) (written has) → (why ≡ Write → Rose (faults had) (faults has)) → (why ≢ Write → faults has ≡ faults had) → OnlyAppends frame faults had has → RunLeaves q job written faults frame {V = V} (Err why) had has
  stopped why had has part rose quiet appends = record {
    whole = tt;
    part = part;
    failed = λ e. rose (same_cause why Write e);
    no_fault = λ n. quiet (λ e. n (ap Err e));
    appends = appends;
  }

  -- one that stopped before it began
  pub nothing_begun : {V : Type 0} (had has : S) → has ≡ had → RunLeaves q job written faults frame {V = V} (Err Memory) had has
  nothing_begun had has same =
      stopped Memory had has (0, ap written same ∙ sym (grown-nothing (written had))) (λ e. absurd (cc)) (λ n. ap faults same) (record { same_frame = ap frame same; faults_grow = omega (arith, ap faults same) })

  -- a run that ended, of whose end there was no memory to tell
  pub untold : {V W : Type 0} (v : V) (had has : S) → RunLeaves q job written faults frame (Ok v) had has → RunLeaves q job written faults frame {V = W} (Err Memory) had has
  untold v had has run =
      let answer = one_thread_answer q job.events in
      stopped Memory had has (length answer, run.whole ∙ ap (grown (written had)) (sym (take-length answer))) (λ e. absurd (cc)) (λ n. run.no_fault (λ e. cc)) run.appends

  -- the same run, with something else told at its end
  pub told : {V W : Type 0} (v : V) (w : W) (had has : S) → RunLeaves q job written faults frame (Ok v) had has → RunLeaves q job written faults frame (Ok w) had has
  told v w had has run = ended w had has run.whole (run.no_fault (λ e. cc)) run.appends

  -- the same stop, of a call that tells something else
  pub handed_on : {V W : Type 0} (why : Cause) (had has : S) → RunLeaves q job written faults frame {V = V} (Err why) had has → RunLeaves q job written faults frame {V = W} (Err why) had has
  handed_on why had has run = stopped why had has run.part (λ e. run.failed (ap Err e)) (λ n. run.no_fault (λ e. n (same_cause why Write e))) run.appends
