-- What is told of logs at the end of a job.
use Rattle.std.proofs.Common.{◌≡◌, ◌∙◌, ◌++◌, ◌∷◌, ℕ, ◌<◌, List, [], Some, arith, get_or, length, sym, subst}
use Rattle.std.specs.Prelude.{slice_get}
use Rattle.std.proofs.lemmas.Option.{get_or_from_slice_get, slice_get_within}
use Rattle.mp_names.specs.Logs.{LogIsLegal}
use Rattle.mp_names.specs.Outlines.{Outline, OutlineIsSound}
use Rattle.mp_machine.specs.Promises.{LogIsFull}
use Rattle.mp_machine.specs.Runs.{run_of_machine}
use Rattle.mp_machine.proofs.Full.{full_at_end, full_where_known}
use Rattle.mp_machine.proofs.Worlds.{run_right}
use Rattle.mp_model.specs.Facts.{JobFacts, QueryFacts}
use Rattle.mp_outline.specs.JobOutline.{outline_of}
use Rattle.mp_tally.specs.declared.tally.Tally.{Tally}
use Rattle.mp_tally.specs.Tallies.{AreTalliesOf, IsTallyOf, TellsLog}
use Rattle.mp_tally.proofs.Lists.{push_all, some_at}
use Rattle.mp_tally.proofs.Told.{full_is_tallied}
use Rattle.mp_worker_refinement.specs.State.{WorkerState}
use Rattle.mp_worker_refinement.specs.SystemState.{KnowsTheEnd, SystemState}
use Rattle.mp_plain.specs.Driven.{AllAreFull, AllKnowTheEnd, AreComplete, AreReached}
use Rattle.mp_plain.specs.Told.{TellLogs}
use Rattle.mp_plain.proofs.Ended.{finished}

module _ (o : Outline) (ok : OutlineIsSound o) (t : SystemState) where
  -- where each worker knows the end, each log is full
  pub full_where_all_know : AreReached o t → AllKnowTheEnd o t → AllAreFull o t
  full_where_all_know reached all w s at =
      let world = run_of_machine o t.post.depth reached.0 in
      let inside = slice_get_within t.workers w s at in
      let each = reached.1.all_workers in
      let is = reached.1.workers w s at in
      let know = subst (KnowsTheEnd o) (get_or_from_slice_get t.workers w s s at) (all w s inside) in
      subst (LogIsFull o w) (sym is.log) (full_where_known o ok t.post.depth world (run_right o ok t.post.depth reached.0) w (omega arith) (finished o world w s is know))

  -- and so it is where all is over
  pub full_where_complete : AreComplete o t → AllAreFull o t
  full_where_complete over w s at =
      let world = run_of_machine o t.post.depth over.0 in
      let inside = slice_get_within t.workers w s at in
      let each = over.1.all_workers in
      subst (LogIsFull o w) (sym (over.1.workers w s at).log) (full_at_end o ok t.post.depth world (run_right o ok t.post.depth over.0) over.2 w (omega arith))

module _ {Cell : Type 0} (q : QueryFacts Cell) (job : JobFacts) where
  -- what the tallies tell of the workers' logs
  abbrev pub AllTell : List WorkerState → List Tally → Type 0
  AllTell workers tallies = (w : ℕ) (s : WorkerState) (t : Tally) → slice_get workers w ≡ Some s → slice_get tallies w ≡ Some t → TellsLog q job s.log t

  -- one more of them
  pub one_more_tells : (workers : List WorkerState) (tallies new : List Tally) (s : WorkerState) (t : Tally) → AllTell workers tallies → s ≡ get_or workers (length tallies) s → TellsLog q job s.log t → new ≡ tallies ++ t ∷ [] → AllTell workers new
  one_more_tells workers tallies new s t before is tells grown =
      subst (AllTell workers) (sym grown)
      (λ w r u at there. push_all (λ v a. (b : WorkerState) → slice_get workers v ≡ Some b → TellsLog q job b.log a) tallies t (λ v a here b e. before v b a e here)
      (λ b e. subst (λ (x : WorkerState). TellsLog q job x.log t) (is ∙ get_or_from_slice_get workers (length tallies) b s e) tells)
      w u there r at)

  module _ (ok : OutlineIsSound (outline_of q job)) where
    -- where all logs are full all tallies are the job's
    tallied_where_full : (t : SystemState) → AreReached (outline_of q job) t → AllAreFull (outline_of q job) t → (tallies : List Tally) → AllTell t.workers tallies → length tallies ≡ job.shape.workers → (w : ℕ) (u : Tally) → slice_get tallies w ≡ Some u → IsTallyOf q job w u
    tallied_where_full t reached full tallies tell many w u at =
        let o = outline_of q job in
        let below = slice_get_within tallies w u at in
        let each = reached.1.all_workers in
        let inside : w < length t.workers = omega arith in
        let here : w < job.shape.workers = omega arith in
        let some = some_at t.workers w inside in
        let is = reached.1.workers w some.0 some.1 in
        full_is_tallied q job ok w some.0.log u (subst (LogIsLegal o w) (sym is.log) ((run_right o ok t.post.depth reached.0).logs w here)) (full w some.0 some.1) (tell w some.0 u some.1 at)

    -- at the end all tallies are the job's
    pub tallied_at_the_end : (t : SystemState) → AreReached (outline_of q job) t → AllKnowTheEnd (outline_of q job) t → (tallies : List Tally) → TellLogs q job t.workers tallies → AreTalliesOf q job tallies
    tallied_at_the_end t reached know tallies tell =
        record { all = tell.all; each = λ w u at. tallied_where_full t reached (full_where_all_know (outline_of q job) ok t reached know) tallies tell.each tell.all w u at }

    -- and so they are where all is over
    pub tallied_where_complete : (t : SystemState) → AreComplete (outline_of q job) t → (tallies : List Tally) → TellLogs q job t.workers tallies → AreTalliesOf q job tallies
    tallied_where_complete t over tallies tell =
        record { all = tell.all; each = λ w u at. tallied_where_full t (over.0, over.1) (full_where_complete (outline_of q job) ok t over) tallies tell.each tell.all w u at }
