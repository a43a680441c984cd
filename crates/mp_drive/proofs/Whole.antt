-- What a whole run comes to, from the machine's start on.
use Rattle.std.proofs.Common.{◌≡◌, ℕ, All, ◌<◌, Bool, List, [], Option, Some, Ok, Err, length, map, sym, ◌∙◌, ap, subst, arith}
use Rattle.std.specs.Prelude.{IfOk, IsTrue, unwrap_or}
use Rattle.std.specs.declared.result.Result.{Result}
use Rattle.std.proofs.lemmas.List.{length-map}
use Rattle.std.proofs.lemmas.Option.{get_or_from_slice_get, slice_get_within}
use Rattle.mp_names.specs.declared.kinds.Kept.{Kept}
use Rattle.mp_names.specs.Outlines.{Outline}
use Rattle.mp_outside.specs.Sink.{Beside, grown}
use Rattle.mp_outside.proofs.SinkLemmas.{grown-nothing}
use Rattle.mp_machine.specs.Worlds.{World, start_of_machine}
use Rattle.mp_machine.specs.Runs.{run_of_machine}
use Rattle.mp_journal_laws.specs.Kept.{kept_of}
use Rattle.mp_job.specs.Runs.{IsRunOf}
use Rattle.mp_job.proofs.Runs.{run_shape}
use Rattle.mp_model.specs.Answers.{one_thread_answer}
use Rattle.mp_model.specs.Facts.{JobFacts, QueryFacts}
use Rattle.mp_model.specs.Tables.{table_of}
use Rattle.mp_worker_refinement.specs.State.{WorkerState}
use Rattle.mp_worker_refinement.specs.SystemState.{KnowsTheEnd, Refines, SystemState}
use Rattle.mp_board.specs.declared.causes.Cause.{Cause}
use Rattle.mp_answer_laws.specs.Runs.{RunLeaves}
use Rattle.mp_tally.specs.declared.tally.Tally.{Tally}
use Rattle.mp_tally.specs.Tallies.{AreTalliesOf}
use Rattle.mp_tally.proofs.Lists.{some_at}
use Rattle.mp_schedule.specs.Below.{AllKnowTheEnd, AreAfter, DriveLeaves, Driven, at_mapped, finished, journal_at, journals_begin}
use Rattle.mp_schedule.specs.Below.{lines_of, no_steps, steps_at, tally_of_job, with_more}
use Rattle.mp_schedule.specs.Schedule.{AreFinished, AreScheduled, EndsAfter, FollowsSchedule, FollowsToEnd, IsKeptBySchedule}

-- where nothing was written before it, a schedule leaves what a whole run leaves
pub seed_leaves : {Cell S V : Type 0} (q : QueryFacts Cell) (job : JobFacts) (written : S → Option (List ℕ)) (faults : S → ℕ) (frame : S → Beside) (t : SystemState) (had has : S) (r : Result V Cause) → lines_of q job.events t ≡ []
    → DriveLeaves q job written faults frame r (one_thread_answer q job.events) t had has → RunLeaves q job written faults frame r had has
seed_leaves q job written faults frame t had has r nothing leaves =
    let none = sym (grown-nothing (written had)) ∙ ap (grown (written had)) (sym nothing) in
    record { whole = leaves.whole (written had) none; part = leaves.part (written had) none; failed = leaves.failed; no_fault = leaves.no_fault; appends = leaves.appends }

-- tallies of a run are the job's, paced or not
pub tallies_of_job : {Cell : Type 0} (facts : List ℕ → QueryFacts Cell) (its job : JobFacts) → IsRunOf its job → (tallies : List Tally) → AreTalliesOf (table_of facts job) job tallies → AreTalliesOf (table_of facts its) its tallies
tallies_of_job facts its job run tallies are = record { all = are.all ∙ sym (ap (λ s. s.workers) (run_shape its job run)); each = λ w t at. tally_of_job facts its job run w t (are.each w t at) }

-- where each worker knows the end each is finished
are_finished : (o : Outline) (depth : ℕ) (t : SystemState) (world : World) → Refines o depth t world → AllKnowTheEnd o t → AreFinished o world
are_finished o depth t world are all w l =
    let each = are.all_workers in
    let inside : w < length t.workers = omega arith in
    let s = some_at t.workers w inside in
    finished o world w s.0 (are.workers w s.0 s.1) (subst (KnowsTheEnd o) (get_or_from_slice_get t.workers w s.0 s.0 s.1) (all w s.0 inside))

-- a schedule that is followed from the start to the end
pub ends_after : (o : Outline) (depth seed : ℕ) (old new : Driven) (r : Result ℕ Cause) → Refines o depth old.state (start_of_machine o) → old.state.post.depth ≡ depth → IfOk r (λ n. FollowsToEnd o seed n old new) → IfOk r (λ n. EndsAfter o depth seed n)
ends_after o depth seed old new (Ok n) start level ends =
    let f = ends.follows in
    let begun : AreAfter o [] old.state = subst (λ (d : ℕ). Refines o d old.state (start_of_machine o)) (sym level) start in
    let there : AreAfter o f.steps new.state = f.lead.state_is [] begun in
    record {
      steps = f.steps;
      scheduled = subst (λ (d : ℕ). AreScheduled o d seed (start_of_machine o) f.steps) level (f.scheduled [] begun);
      count = f.count;
      finished = subst (λ (d : ℕ). AreFinished o (run_of_machine o d f.steps)) (f.lead.depth ∙ level) (are_finished o new.state.post.depth new.state (run_of_machine o new.state.post.depth f.steps) there ends.finished);
      few = f.few;
    }
ends_after o depth seed old new (Err why) start level ends = tt

-- what the workers have kept then, where each kept its steps from the start on
pub kept_by_schedule : (o : Outline) (depth seed n : ℕ) (old new : SystemState) → Refines o depth old (start_of_machine o) → old.post.depth ≡ depth → FollowsSchedule o seed n old new → AllKnowTheEnd o new
    → ((w : ℕ) → w < length old.workers → journal_at old w ≡ Some []) → IsKeptBySchedule o depth seed (map (λ (s : WorkerState). unwrap_or s.steps []) new.workers)
kept_by_schedule o depth seed n old new start level f known keep =
    let begun : AreAfter o [] old = subst (λ (d : ℕ). Refines o d old (start_of_machine o)) (sym level) start in
    let there : AreAfter o f.steps new = f.lead.state_is [] begun in
    let all = there.all_workers in
    let first = start.all_workers in
    record {
      steps = f.steps;
      scheduled = subst (λ (d : ℕ). AreScheduled o d seed (start_of_machine o) f.steps) level (f.scheduled [] begun);
      finished = subst (λ (d : ℕ). AreFinished o (run_of_machine o d f.steps)) (f.lead.depth ∙ level) (are_finished o new.post.depth new (run_of_machine o new.post.depth f.steps) there known);
      all_workers = length-map new.workers (λ (s : WorkerState). unwrap_or s.steps []) ∙ all;
      each = λ w kept at.
          let s = at_mapped (λ (s : WorkerState). unwrap_or s.steps []) new.workers w kept at in
          let within = slice_get_within new.workers w s.0 s.1 in
          let grown = f.lead.journals [] begun w in
          let mine : s.0.steps ≡ Some (kept_of o old.post.depth (start_of_machine o) f.steps w) =
          sym (ap (λ (r : Option WorkerState). steps_at r) s.1) ∙ grown ∙ ap (λ (j : Option (List Kept)). with_more j (kept_of o old.post.depth (start_of_machine o) f.steps w)) (keep w (omega arith)) in
          s.2 ∙ ap (λ (j : Option (List Kept)). unwrap_or j []) mine ∙ ap (λ (d : ℕ). kept_of o d (start_of_machine o) f.steps w) level;
    }

-- the same of lists that were taken of the workers then
pub kept_by_plan : (o : Outline) (depth seed n : ℕ) (old new : SystemState) (keeps : Bool) (lists : List (List Kept)) → IsTrue keeps → All (λ (s : WorkerState). s.steps ≡ no_steps keeps) old.workers → Refines o depth old (start_of_machine o) → old.post.depth ≡ depth
    → FollowsSchedule o seed n old new → AllKnowTheEnd o new → lists ≡ map (λ (s : WorkerState). unwrap_or s.steps []) new.workers → IsKeptBySchedule o depth seed lists
kept_by_plan o depth seed n old new keeps lists keep none start level f known taken =
    subst (IsKeptBySchedule o depth seed) (sym taken) (kept_by_schedule o depth seed n old new start level f known (λ w l. journals_begin keeps old.workers none w l ∙ ap no_steps keep))
