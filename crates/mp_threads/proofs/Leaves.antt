-- What a worker that began with nothing leaves in a sink, and what the run then leaves.
use Rattle.std.proofs.Common.{◌≡◌, ◌≢◌, ℕ, Bool, true, List, Ok, Err, ap, ◌∙◌, subst, sym}
use Rattle.std.specs.Prelude.{OnErr, OnOk}
use Rattle.std.specs.declared.option.Option.{Option}
use Rattle.std.specs.declared.result.Result.{Result}
use Rattle.mp_names.specs.Logs.{Log, LogIsLegal, empty_log}
use Rattle.mp_machine.specs.Promises.{LogIsFull}
use Rattle.mp_outside.specs.Fault.{Rose}
use Rattle.mp_outside.specs.Sink.{Beside, OnlyAppends, grown}
use Rattle.mp_outside.proofs.SinkLemmas.{grown-nothing}
use Rattle.mp_model.specs.Answers.{one_thread_answer}
use Rattle.mp_model.specs.Facts.{JobFacts, QueryFacts}
use Rattle.mp_outline.specs.JobOutline.{outline_of}
use Rattle.mp_answer_laws.proofs.Written.{written_lines_begin}
use Rattle.mp_board.specs.declared.causes.Cause.{Cause}
use Rattle.mp_board.specs.declared.causes.Cause.TheVariants as cause
use Rattle.mp_threads_member.specs.Below.{Stop, Write}
use Rattle.mp_answer_laws.specs.Lines.{HasBegun, HasWritten}
use Rattle.mp_threads_member.specs.Members.{MemberState}
use Rattle.mp_threads_member.specs.Driving.{Drives, GoesOn, IsFinished}
use Rattle.mp_threads_member.proofs.Driven.{answer_written}
use Rattle.mp_threads_place.specs.Places.{mark_of}
use Rattle.mp_threads_place.proofs.Marks.{same_mark}
use Rattle.mp_answer_laws.specs.Runs.{RunLeaves}

on_ok : {V E A B : Type 0} (r : Result V E) → OnOk r A → (A → B) → OnOk r B
on_ok (Ok v) a f = f a
on_ok (Err e) a f = tt

pub on_err : {V E B : Type 0} (r : Result V E) → B → OnErr r B
on_err (Ok v) b = tt
on_err (Err e) b = b

module _ {Cell S : Type 0} (q : QueryFacts Cell) (job : JobFacts) (written : S → Option (List ℕ)) (faults : S → ℕ) (frame : S → Beside) where
  -- before anything is written
  nothing_yet : (log : Log) → log ≡ empty_log → (before : Option (List ℕ)) → HasWritten q job.events before log before
  nothing_yet log empty before = subst (λ (l : Log). HasWritten q job.events before l before) (sym empty) (sym (grown-nothing before))

  module _ (first last : MemberState) (old new : S) (zeroth : first.worker.number ≡ 0) (empty : first.worker.log ≡ empty_log) where
    had_nothing : HasWritten q job.events (written old) first.worker.log (written old)
    had_nothing = nothing_yet first.worker.log empty (written old)

    -- where it goes on, a beginning of the answer
    some_answer : GoesOn q job written faults frame first last old new → LogIsLegal (outline_of q job) last.worker.number last.worker.log → HasBegun q job.events (written old) (written new)
    some_answer on legal =
        let lines = on.lines (written old) had_nothing in
        let b = written_lines_begin q job last.worker.log (subst (λ (w : ℕ). LogIsLegal (outline_of q job) w last.worker.log) (on.number ∙ zeroth) legal) in
        (b.0, lines ∙ ap (grown (written old)) b.1)

    -- what worker 0 leaves, however it was driven
    pub record IsDriven (driven : Result Bool Stop) : Type 0 where
      pub mark : mark_of last.worker ≡ mark_of first.worker
      pub part : HasBegun q job.events (written old) (written new)
      pub failed : driven ≡ Err Write → Rose (faults old) (faults new)
      pub no_fault : driven ≢ Err Write → faults new ≡ faults old
      pub appends : OnlyAppends frame faults old new

    pub is_driven : (driven : Result Bool Stop) → Drives q job written faults frame driven first last old new → LogIsLegal (outline_of q job) last.worker.number last.worker.log → IsDriven driven
    is_driven (Ok over) on legal = record { mark = same_mark last.worker first.worker on.number on.keeps; part = some_answer on legal; failed = λ e. absurd (cc); no_fault = λ other. on.no_fault; appends = on.appends }
    is_driven (Err why) stops legal = record {
      mark = same_mark last.worker first.worker stops.number stops.keeps;
      part = stops.part zeroth (written old) had_nothing;
      failed = λ e. stops.failed (cc);
      no_fault = λ other. stops.no_fault (λ e. other (ap Err e));
      appends = stops.appends;
    }

    -- and where it was driven to the end, the whole answer
    whole_answer : (driven : Result Bool Stop) → driven ≡ Ok true → Drives q job written faults frame driven first last old new → LogIsFull (outline_of q job) last.worker.number last.worker.log → written new ≡ grown (written old) (one_thread_answer q job.events)
    whole_answer (Ok over) is on full = answer_written q job written faults frame first last old new on zeroth full (written old) had_nothing
    whole_answer (Err why) is on full = absurd (cc)

    -- what the run leaves that ends with that
    pub run_leaves : {V : Type 0} (driven : Result Bool Stop) (result : Result V Cause) → IsDriven driven → Drives q job written faults frame driven first last old new → (driven ≡ Ok true → IsFinished (outline_of q job) last.worker)
        → OnOk result (driven ≡ Ok true) → (result ≡ Err cause.Write → driven ≡ Err Write) → (driven ≡ Err Write → result ≡ Err cause.Write) → RunLeaves q job written faults frame result old new
    run_leaves driven result is drives finished over write stopped = record {
      whole = on_ok result over (λ all. whole_answer driven all drives (finished all).full);
      part = on_err result is.part;
      failed = λ e. is.failed (write e);
      no_fault = λ other. is.no_fault (λ e. other (stopped e));
      appends = is.appends;
    }
