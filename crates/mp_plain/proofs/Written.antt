-- What a step leaves in a sink: the lines that worker 0 has written, or a beginning of the one-thread answer.
use Rattle.std.proofs.Common.{◌≡◌, ℕ, zero, suc, ◌<◌, List, [], ◌∷◌, ◌++◌, Some, Ok, Err, length, set, take, refl, sym, ap, ◌∙◌, subst, inl, inr, ⊎_elim, arith}
use Rattle.std.specs.Option.{option_map_or}
use Rattle.std.specs.Prelude.{OnErr, OnOk, Option, slice_get}
use Rattle.std.specs.declared.result.Result.{Result}
use Rattle.mp_names.specs.declared.kinds.Kind.{Kind}
use Rattle.mp_names.specs.declared.kinds.Kind.TheVariants.{Write}
use Rattle.mp_names.specs.declared.names.Name.{Name}
use Rattle.mp_names.specs.declared.names.Name.TheVariants.{Written}
use Rattle.mp_names.specs.Keeping.{IsUnwritten}
use Rattle.mp_names.specs.Logs.{Log, LogIsLegal, empty_log, with_settled}
use Rattle.mp_names.specs.Outlines.{Outline, OutlineIsSound}
use Rattle.mp_mailbox.specs.Queues.{Queues}
use Rattle.mp_model.specs.Answers.{one_thread_answer}
use Rattle.mp_model.specs.Facts.{JobFacts, QueryFacts}
use Rattle.mp_outline.specs.JobOutline.{outline_of}
use Rattle.mp_outside.specs.Sink.{grown}
use Rattle.mp_outside.proofs.SinkLemmas.{grown-grown}
use Rattle.mp_output.specs.Holding.{answer_at}
use Rattle.mp_machine.specs.Runs.{run_of_machine, step_of_machine}
use Rattle.mp_machine.proofs.Worlds.{run_right, step_right}
use Rattle.mp_board.specs.Boards.{Posted}
use Rattle.mp_worker_refinement.specs.State.{CanMake, Makes, WorkerState, as_machine, with_step}
use Rattle.mp_msg.specs.declared.names.Names.{Names}
use Rattle.mp_worker_refinement.specs.Steps.{Tells}
use Rattle.mp_worker_refinement.specs.SystemState.{Refines, SystemState, queues_wait, with_worker}
use Rattle.mp_worker_refinement.proofs.Messages.{messages_kept}
use Rattle.mp_worker_refinement.proofs.Asked.{may_be_asked}
use Rattle.mp_worker_refinement.proofs.Steps as steps
use Rattle.mp_answer_laws.specs.Lines.{lines_of_time, written_lines}
use Rattle.mp_answer_laws.proofs.Written.{parts_of_lines_begin, writing_adds_lines}
use Rattle.mp_worker.specs.Below.{Stop}
use Rattle.mp_worker.specs.Below.{Turn as Answered}
use Rattle.mp_worker.specs.Below.turn as worker
use Rattle.mp_worker.specs.Writing.{WritesPart}
use Rattle.mp_worker.proofs.Told.{no_lines_else, one_time}
use Rattle.mp_board.specs.declared.causes.Cause.{Cause}
use Rattle.mp_plain.specs.Driven.{HasKept, HasWritten, first_log}
use Rattle.mp_plain.proofs.Told.{IfNotMade, Says, Writes, exchange_no_write, is_write}
use Rattle.mp_plain.proofs.Turned.{Passes, left_with}

slice_get-set_same : {X : Type 0} (xs : List X) (i : ℕ) (x y : X) → slice_get xs i ≡ Some y → slice_get (set xs i x) i ≡ Some x
slice_get-set_same [] i x y e = absurd (cc)
slice_get-set_same (z ∷ xs) zero x y e = refl
slice_get-set_same (z ∷ xs) (suc i) x y e = slice_get-set_same xs i x y e

first_stays : {X : Type 0} (xs : List X) (i : ℕ) (x : X) → slice_get (set xs (suc i) x) 0 ≡ slice_get xs 0
first_stays [] i x = refl
first_stays (z ∷ xs) i x = refl

abbrev log_of : Option WorkerState → Log
log_of r = option_map_or (λ s. s.log) r empty_log

pub some_first : (xs : List WorkerState) → 0 < length xs → (s : WorkerState) × (slice_get xs 0 ≡ Some s)
some_first [] l = absurd (omega arith)
some_first (s ∷ xs) l = (s, refl)

-- The log of worker 0 is legal

module _ (o : Outline) (ok : OutlineIsSound o) (t : SystemState) (depth : ℕ) (before : List (ℕ × Kind)) (are : Refines o depth t (run_of_machine o depth before)) where
  pub first_legal : LogIsLegal o 0 (first_log t)
  first_legal =
      let l = ok.some_worker in
      let e = are.all_workers in
      let first = some_first t.workers (omega arith) in
      let world = run_of_machine o depth before in
      subst (LogIsLegal o 0) (sym (ap log_of first.1)) ((may_be_asked o depth t world (run_right o ok depth before) are).legal 0 first.0 first.1)

  -- and so it is once another time is written
  legal_with : (s : WorkerState) (x : Name) → slice_get t.workers 0 ≡ Some s → CanMake o Write s x → LogIsLegal o 0 (with_settled s.log x)
  legal_with s x was can =
      let world = run_of_machine o depth before in
      let right = run_right o ok depth before in
      let new = with_step Write (x ∷ []) s in
      let h = steps.did o ok depth t world right are 0 s was Write (x ∷ []) new t.post (record { first = x; can = can; names = refl; after = refl }) tt (record { workers = refl; depth = refl; follows = λ a b pushed popped la lb h. h; messages = messages_kept o 0 s.log new.log (queues_wait t.post) (queues_wait t.post) refl refl (λ a b messages h. h) }) (record { first = x; count = 1 }) (record { first = refl; count = refl }) in
      let asked = may_be_asked o depth (with_worker t 0 new t.post) (step_of_machine o depth world 0 Write) (step_right o ok depth world 0 Write right).0 h.1 in
      asked.legal 0 new (slice_get-set_same t.workers 0 new s was)

module _ {Cell : Type 0} (q : QueryFacts Cell) (job : JobFacts) where
  -- a written time adds its lines
  adds : (log : Log) (x : Name) → IsUnwritten log x → written_lines q job.events (with_settled log x) ≡ written_lines q job.events log ++ lines_of_time q job.events x
  adds log (Written t) h = writing_adds_lines q job log t
  adds log x h = absurd h

  -- where a worker's log has the same lines, so has that of worker 0
  same_lines : (t : SystemState) (w : ℕ) (s new : WorkerState) (after : Posted) (left : Queues (List Name)) → slice_get t.workers w ≡ Some s → written_lines q job.events new.log ≡ written_lines q job.events s.log
      → written_lines q job.events (first_log (left_with t w new after left)) ≡ written_lines q job.events (first_log t)
  same_lines t zero s new after left was e =
      ap (λ (r : Option WorkerState). written_lines q job.events (log_of r)) (slice_get-set_same t.workers 0 new s was) ∙ e ∙ ap (λ (r : Option WorkerState). written_lines q job.events (log_of r)) (sym was)
  same_lines t (suc w) s new after left was e = ap (λ (r : Option WorkerState). written_lines q job.events (log_of r)) (first_stays t.workers w new)

  module _ (ok : OutlineIsSound (outline_of q job)) (t : SystemState) (w : ℕ) (kind : Kind) (s new : WorkerState) (after : Posted) (left : Queues (List Name)) (was : slice_get t.workers w ≡ Some s) (number : s.number ≡ w) (written now before : Option (List ℕ)) (has : HasWritten q job.events before t written) where
    abbrev o : Outline
    o = outline_of q job

    abbrev next : SystemState
    next = left_with t w new after left

    abbrev lines : Log → List ℕ
    lines log = written_lines q job.events log

    -- nothing is written
    silent : now ≡ written → lines new.log ≡ lines s.log → HasWritten q job.events before next now
    silent same e = same ∙ has ∙ ap (grown before) (sym (same_lines t w s new after left was e))

    -- worker 0 writes a time
    writes : (x : Name) → w ≡ 0 → IsUnwritten s.log x → new.log ≡ with_settled s.log x → now ≡ grown written (lines_of_time q job.events x) → HasWritten q job.events before next now
    writes x zeroth unwritten log grew =
        let first : slice_get t.workers 0 ≡ Some s = subst (λ (n : ℕ). slice_get t.workers n ≡ Some s) zeroth was in
        let here : first_log next ≡ new.log = subst (λ (n : ℕ). first_log (left_with t n new after left) ≡ new.log) (sym zeroth) (ap log_of (slice_get-set_same t.workers 0 new s first)) in
        let more : lines (first_log t) ++ lines_of_time q job.events x ≡ lines (first_log next) =
        ap (λ (r : Option WorkerState). lines (log_of r) ++ lines_of_time q job.events x) first ∙ sym (adds s.log x unwritten) ∙ ap lines (sym log) ∙ ap lines (sym here) in
        grew ∙ ap (λ (b : Option (List ℕ)). grown b (lines_of_time q job.events x)) has ∙ grown-grown before (lines (first_log t)) (lines_of_time q job.events x) ∙ ap (grown before) more

    did : (told : Names) (xs : List Name) → Tells told xs → Makes o kind s xs new → Writes q job kind s written now (Ok (worker.Did told.first told.count)) → HasWritten q job.events before next now
    did told xs tells makes says =
        ⊎_elim
        (λ (e : kind ≡ Write). let time = one_time o kind s new told xs tells makes e in writes told.first (sym number ∙ time.0.next.0) time.0.next.1.0 time.1 (says.lines e))
        (λ (n : kind ≡ Write → ⊥).
        silent (says.others n) (ap (λ (u : WorkerState). lines u.log) makes.after ∙ no_lines_else q job s.number (as_machine s) kind makes.first xs n makes.can.next makes.names))
        (is_write kind)

    module _ (board : Posted) (post : Queues (List Name)) where
      written_on : (turn : Answered) → Says o kind board after post left s new (Ok turn) s.number → Writes q job kind s written now (Ok turn) → HasWritten q job.events before next now
      written_on (worker.Did x n) told says = let made = told.did in did (record { first = x; count = n }) made.0 made.1 made.2 says
      written_on (worker.Seen version) told says =
          silent (says.others (exchange_no_write kind told.saw.0)) (ap (λ (n : WorkerState). lines n.log) told.saw.1.after)
      written_on worker.NotNow told says = silent says.nothing (ap (λ (n : WorkerState). lines n.log) told.unchanged)
      written_on worker.Busy told says = absurd told.busy

      pub written_on_ok : (r : Result Answered Stop) (given : Result Answered Cause) → Passes r given → Says o kind board after post left s new r s.number → Writes q job kind s written now r → OnOk given (HasWritten q job.events before next now)
      written_on_ok (Ok turn) given is told says = subst (λ (g : Result Answered Cause). OnOk g (HasWritten q job.events before next now)) (sym is) (written_on turn told says)
      written_on_ok (Err stop) given is told says = subst (λ (g : Result Answered Cause). OnOk g (HasWritten q job.events before next now)) (sym is.1) tt

    module _ (depth : ℕ) (made : List (ℕ × Kind)) (are : Refines o depth t (run_of_machine o depth made)) where
      kept_on : (stop : Stop) → new ≡ s → Writes q job kind s written now (Err stop) → HasKept q job.events kind before next now
      kept_on stop unchanged says =
          let same : lines new.log ≡ lines s.log = ap (λ (n : WorkerState). lines n.log) unchanged in
          ⊎_elim
          (λ (e : kind ≡ Write).
          ⊎_elim
          (λ (quiet : now ≡ written). inl (silent quiet same))
          (λ (p : WritesPart q job s written now).
          let zeroth : w ≡ 0 = sym number ∙ p.2.next.0 in
          let first : slice_get t.workers 0 ≡ Some s = subst (λ (n : ℕ). slice_get t.workers n ≡ Some s) zeroth was in
          let legal = legal_with o ok t depth made are s (Written p.0) first p.2 in
          let b = parts_of_lines_begin q job s.log p.0 p.1 legal in
          let part = take p.1 (answer_at q job.events p.0) in
          let all : lines (first_log t) ++ part ≡ take b.0 (one_thread_answer q job.events) = ap (λ (r : Option WorkerState). lines (log_of r) ++ part) first ∙ b.1 in
          inr (e, (b.0, p.3 ∙ ap (λ (b : Option (List ℕ)). grown b part) has ∙ grown-grown before (lines (first_log t)) part ∙ ap (grown before) all)))
          says.part)
          (λ (n : kind ≡ Write → ⊥). inl (silent (says.others n) same))
          (is_write kind)

      pub kept_on_err : (r : Result Answered Stop) (given : Result Answered Cause) → Passes r given → IfNotMade r (new ≡ s) → Writes q job kind s written now r → OnErr given (HasKept q job.events kind before next now)
      kept_on_err (Ok turn) given is unchanged says = subst (λ (g : Result Answered Cause). OnErr g (HasKept q job.events kind before next now)) (sym is) tt
      kept_on_err (Err stop) given is unchanged says = subst (λ (g : Result Answered Cause). OnErr g (HasKept q job.events kind before next now)) (sym is.1) (kept_on stop unchanged says)
