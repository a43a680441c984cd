-- Where each worker knows that all is over, worker 0 has written the one-thread answer.
use Rattle.std.proofs.Common.{◌≡◌, ⊎_elim, ℕ, ◌<◌, Bool, true, false, length, List, [], ◌∷◌, All, Some, take, sym, ap, ◌∙◌, subst, arith}
use Rattle.std.specs.Bool.{MatchBool}
use Rattle.std.specs.List.{AllWithin, HoldsAt}
use Rattle.std.specs.Option.{option_map_or}
use Rattle.std.specs.Prelude.{◌↔◌, IsTrue, Option, slice_get}
use Rattle.std.proofs.lemmas.Bool.{false≢true}
use Rattle.std.proofs.lemmas.Iterator.Search.{true_from_All}
use Rattle.std.proofs.lemmas.List.Elements.{All-from_all_within, All-head}
use Rattle.mp_names.specs.declared.kinds.Kind.{Kind}
use Rattle.mp_names.specs.declared.kinds.Kind.TheVariants.{Write}
use Rattle.mp_names.specs.declared.names.Name.TheVariants.{Row, Written}
use Rattle.mp_names.specs.Logs.{Log, empty_log}
use Rattle.mp_names.specs.Frontiers.{HasEnded}
use Rattle.mp_names.specs.Names.{In}
use Rattle.mp_names.specs.Outlines.{Outline, OutlineIsSound}
use Rattle.mp_outside.specs.Sink.{grown}
use Rattle.mp_machine.specs.Promises.{LogIsFull}
use Rattle.mp_machine.specs.Runs.{WorkerIsFinished, run_of_machine}
use Rattle.mp_machine.specs.Worlds.{World}
use Rattle.mp_machine.proofs.Full.{full_where_known}
use Rattle.mp_machine.proofs.Worlds.{run_right}
use Rattle.mp_model.specs.Answers.{one_thread_answer}
use Rattle.mp_model.specs.Facts.{JobFacts, QueryFacts}
use Rattle.mp_outline.specs.JobOutline.{outline_of}
use Rattle.mp_worker_refinement.specs.State.{WorkerState}
use Rattle.mp_worker_refinement.specs.SystemState.{IsWorkerOf, KnowsTheEnd, SystemState}
use Rattle.mp_answer_laws.specs.Lines.{HasBegun}
use Rattle.mp_answer_laws.proofs.Written.{full_logs_answer, written_lines_begin}
use Rattle.mp_plain.specs.Driven.{AllKnowTheEnd, AreReached, HasKept, HasWritten, first_log, lines_of}
use Rattle.mp_plain.proofs.Written.{first_legal, some_first}

-- a worker that knows the end is finished as the machine has it
pub finished : (o : Outline) (world : World) (w : ℕ) (s : WorkerState) → IsWorkerOf o w s (world.worker w) → KnowsTheEnd o s → WorkerIsFinished o world w
finished o world w s is know =
    record {
      done = λ at l. subst (HasEnded o.until) (is.seen at l) (know.done at l);
      written = λ e t g took.
          subst (λ (log : Log). In (Written t) log.settled) is.log
          (know.written (is.number ∙ e) t g (subst (λ (log : Log). In (Row t g) log.took) (sym is.log) took));
    }

-- what holds of all workers holds of worker 0
all_first : (P : WorkerState → Type 0) (xs : List WorkerState) (s : WorkerState) → All P xs → slice_get xs 0 ≡ Some s → P s
all_first P [] s all e = absurd (cc)
all_first P (x ∷ xs) s all e = let same : x ≡ s = cc in subst P same (All-head P x xs all)

-- what `all` answered, where the closure answered for each worker
pub told_by_all : (P : WorkerState → Type 0) (r : Bool) (xs : List WorkerState) → MatchBool r (AllWithin P xs 0 (length xs)) ((k : ℕ) × (k < length xs) × HoldsAt (λ s. P s → ⊥) xs k) → IsTrue r ↔ All P xs
told_by_all P r xs h = (all r h, (λ a. true_from_All P (λ s. P s → ⊥) r xs (λ s y n. n y) h a))
  where
    all : (r : Bool) → MatchBool r (AllWithin P xs 0 (length xs)) ((k : ℕ) × (k < length xs) × HoldsAt (λ s. P s → ⊥) xs k) → IsTrue r → All P xs
    all true h e = All-from_all_within P xs h
    all false h e = absurd (false≢true e)

module _ {Cell : Type 0} (q : QueryFacts Cell) (job : JobFacts) (ok : OutlineIsSound (outline_of q job)) (t : SystemState) (reached : AreReached (outline_of q job) t) where
  abbrev o : Outline
  o = outline_of q job

  -- all that is written is a beginning of the answer
  pub lines_begin : (k : ℕ) × (lines_of q job.events t ≡ take k (one_thread_answer q job.events))
  lines_begin = written_lines_begin q job (first_log t) (first_legal o ok t t.post.depth reached.0 reached.1)

  -- and so it is in a sink
  pub has_begun : (before now : Option (List ℕ)) → HasWritten q job.events before t now → HasBegun q job.events before now
  has_begun before now has = (lines_begin.0, has ∙ ap (grown before) lines_begin.1)

  pub kept_has_begun : (made : Kind) (before now : Option (List ℕ)) → HasKept q job.events made before t now → HasBegun q job.events before now
  kept_has_begun made before now kept =
      ⊎_elim (λ (h : HasWritten q job.events before t now). has_begun before now h) (λ (h : (made ≡ Write) × HasBegun q job.events before now). h.1) kept

  first_full : AllKnowTheEnd o t → LogIsFull o 0 (first_log t)
  first_full all =
      let depth = t.post.depth in
      let world = run_of_machine o depth reached.0 in
      let l = ok.some_worker in
      let e = reached.1.all_workers in
      let first = some_first t.workers (omega arith) in
      let is = reached.1.workers 0 first.0 first.1 in
      let know = all_first (KnowsTheEnd o) t.workers first.0 all first.1 in
      let full = full_where_known o ok depth world (run_right o ok depth reached.0) 0 l (finished o world 0 first.0 is know) in
      subst (LogIsFull o 0) (sym (ap (λ (r : Option WorkerState). option_map_or (λ s. s.log) r empty_log) first.1 ∙ is.log)) full

  pub all_written : AllKnowTheEnd o t → lines_of q job.events t ≡ one_thread_answer q job.events
  all_written all = full_logs_answer q job (first_log t) (first_full all)
