-- What steps leave in a sink, over several calls.
use Rattle.std.proofs.Common.{◌≡◌, ℕ, List, Option, Ok, Err, refl, sym, ap, ◌∙◌, subst}
use Rattle.std.specs.Prelude.{◌≢◌, take}
use Rattle.std.specs.declared.result.Result.{Result}
use Rattle.mp_names.specs.declared.kinds.Kind.{Kind}
use Rattle.mp_names.specs.Outlines.{OutlineIsSound}
use Rattle.mp_outside.specs.Sink.{Beside, OnlyAppends, grown}
use Rattle.mp_outside.proofs.SinkLemmas.{rose_later}
use Rattle.mp_model.specs.Answers.{one_thread_answer}
use Rattle.mp_model.specs.Facts.{JobFacts, QueryFacts}
use Rattle.mp_outline.specs.JobOutline.{outline_of}
use Rattle.mp_worker_refinement.specs.SystemState.{SystemState}
use Rattle.mp_worker.specs.Below.{Turn as Answered}
use Rattle.mp_board.specs.declared.causes.Cause.{Cause}
use Rattle.mp_board.specs.declared.causes.Cause.TheVariants.{Write}
use Rattle.mp_plain.specs.Driven.{AreReached, HasWritten, lines_of}
use Rattle.mp_plain.specs.Driving.{DriveLeaves, StepLeaves}
use Rattle.mp_plain.proofs.Appended.{appends_further, appends_none}
use Rattle.mp_plain.proofs.Ended.{kept_has_begun}

same_cause : {V : Type 0} (a b : Cause) → ◌≡◌ {A = Result V Cause} (Err a) (Err b) → a ≡ b
same_cause a b e = cc

module _ {Cell S : Type 0} (q : QueryFacts Cell) (job : JobFacts) (written : S → Option (List ℕ)) (faults : S → ℕ) (frame : S → Beside) where
  -- Steps of which none was refused have left the lines that worker 0 has written
  pub record HaveLeft (old new : SystemState) (had has : S) : Type 0 where
    pub lines : (before : Option (List ℕ)) → HasWritten q job.events before old (written had) → HasWritten q job.events before new (written has)
    pub quiet : faults has ≡ faults had
    pub appends : OnlyAppends frame faults had has

  pub left_none : (t : SystemState) (s : S) → HaveLeft t t s s
  left_none t s = record { lines = λ before h. h; quiet = refl; appends = appends_none frame faults s }

  -- one more step
  pub left_more : (kind : Kind) (turn : Answered) (old mid new : SystemState) (had between has : S) → HaveLeft old mid had between → StepLeaves q job written faults frame kind (Ok turn) mid new between has → HaveLeft old new had has
  left_more kind turn old mid new had between has left step = record {
    lines = λ before h. step.lines before (left.lines before h);
    quiet = step.no_fault (λ e. cc) ∙ left.quiet;
    appends = appends_further frame faults had between has left.appends step.appends;
  }

  -- one more call
  pub left_further : {V : Type 0} (v : V) (old mid new : SystemState) (had between has : S) → HaveLeft old mid had between → DriveLeaves q job written faults frame (Ok v) (lines_of q job.events new) mid between has → HaveLeft old new had has
  left_further v old mid new had between has left call = record {
    lines = λ before h. call.whole before (left.lines before h);
    quiet = call.no_fault (λ e. cc) ∙ left.quiet;
    appends = appends_further frame faults had between has left.appends call.appends;
  }

  -- a call that ends
  pub left_all : {V : Type 0} (v : V) (lines : List ℕ) (old new : SystemState) (had has : S) → HaveLeft old new had has → lines_of q job.events new ≡ lines → DriveLeaves q job written faults frame (Ok v) lines old had has
  left_all v lines old new had has left same = record {
    whole = λ before h. left.lines before h ∙ ap (grown before) same;
    part = λ before h. tt;
    failed = λ e. absurd (cc);
    no_fault = λ n. left.quiet;
    appends = left.appends;
  }

  -- a call that stops before its next step
  pub left_there : {V : Type 0} (why : Cause) (lines : List ℕ) (old new : SystemState) (had has : S) → why ≢ Write → (k : ℕ) × (lines_of q job.events new ≡ take k (one_thread_answer q job.events)) → HaveLeft old new had has → DriveLeaves q job written faults frame {V = V} (Err why) lines old had has
  left_there why lines old new had has not_write begun left = record {
    whole = λ before h. tt;
    part = λ before h. (begun.0, left.lines before h ∙ ap (grown before) begun.1);
    failed = λ e. absurd (not_write (same_cause why Write e));
    no_fault = λ n. left.quiet;
    appends = left.appends;
  }

  -- a call that stops where the last of its calls did
  stopped : {V W : Type 0} (why : Cause) (lines more : List ℕ) (old mid : SystemState) (had between has : S) → HaveLeft old mid had between → DriveLeaves q job written faults frame {V = W} (Err why) more mid between has → DriveLeaves q job written faults frame {V = V} (Err why) lines old had has
  stopped why lines more old mid had between has left call = record {
    whole = λ before h. tt;
    part = λ before h. call.part before (left.lines before h);
    failed = λ e. rose_later _ _ _ left.appends.faults_grow (call.failed (ap Err (same_cause why Write e)));
    no_fault = λ n. call.no_fault (λ e. n (ap Err (same_cause why Write e))) ∙ left.quiet;
    appends = appends_further frame faults had between has left.appends call.appends;
  }

  pub left_stopped : {V W : Type 0} (r : Result V Cause) (x y : Cause) (lines more : List ℕ) (old mid : SystemState) (had between has : S) → r ≡ Err y → y ≡ x → HaveLeft old mid had between → DriveLeaves q job written faults frame {V = W} (Err x) more mid between has → DriveLeaves q job written faults frame r lines old had has
  left_stopped r x y lines more old mid had between has e f left call =
      subst (λ (g : Result _ Cause). DriveLeaves q job written faults frame g lines old had has) (sym (e ∙ ap Err f)) (stopped x lines more old mid had between has left call)

  -- a step that is refused
  pub step_stops : (kind : Kind) (why : Cause) (lines : List ℕ) (mid new : SystemState) (between has : S) → OutlineIsSound (outline_of q job) → AreReached (outline_of q job) new → StepLeaves q job written faults frame kind (Err why) mid new between has → DriveLeaves q job written faults frame {V = Answered} (Err why) lines mid between has
  step_stops kind why lines mid new between has ok reached step = record {
    whole = λ before h. tt;
    part = λ before h. kept_has_begun q job ok new reached kind before (written has) (step.part before h);
    failed = λ e. (step.failed e).1;
    no_fault = step.no_fault;
    appends = step.appends;
  }
