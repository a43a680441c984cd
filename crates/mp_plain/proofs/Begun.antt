-- Workers that have made no step begin to keep their steps.
use Rattle.std.proofs.Common.{◌≡◌, ℕ, zero, suc, All, List, [], ◌∷◌, Some, get_or, map, sym, ◌∙◌, subst}
use Rattle.std.specs.Prelude.{slice_get}
use Rattle.std.proofs.lemmas.List.{length-map}
use Rattle.std.proofs.lemmas.Option.{slice_get-get_or}
use Rattle.mp_names.specs.declared.kinds.Kept.{Kept}
use Rattle.mp_names.specs.Outlines.{Outline}
use Rattle.mp_machine.specs.Runs.{run_of_machine}
use Rattle.mp_machine.specs.Worlds.{World, start_of_machine}
use Rattle.mp_worker_refinement.specs.State.{WorkerState}
use Rattle.mp_worker_refinement.specs.SystemState.{IsWorkerOf, Refines, SystemState}
use Rattle.mp_plain.specs.Driven.{AreReached, AreReachedBy}
use Rattle.mp_plain.specs.Journals.{HasMadeNone, all_keeping, keeping}
use Rattle.mp_plain.proofs.Journaled.{at_mapped, steps_at}
use Rattle.mp_plain.proofs.Unmade.{none_made}

nothing_yet : (workers : List WorkerState) (w : ℕ) (kept : List Kept) → steps_at (slice_get (map keeping workers) w) ≡ Some kept → kept ≡ []
nothing_yet [] w kept is = absurd (cc)
nothing_yet (s ∷ workers) zero kept is = let e : Some kept ≡ Some [] = sym is in cc
nothing_yet (s ∷ workers) (suc w) kept is = nothing_yet workers w kept is

module _ (o : Outline) (t : SystemState) where
  -- what workers keep is no part of the machine's state
  keeping_refines : (depth : ℕ) (world : World) → Refines o depth t world → Refines o depth (all_keeping t) world
  keeping_refines depth world are =
      record {
        all_workers = length-map t.workers keeping ∙ are.all_workers;
        workers = λ w s at.
            let r = at_mapped keeping t.workers w s at in
            let is = are.workers w r.0 r.1 in
            subst (λ (x : WorkerState). IsWorkerOf o w x (world.worker w)) (sym r.2) (record { number = is.number; log = is.log; posted = is.posted; seen = is.seen; version = is.version });
        all_logs = are.all_logs;
        posted = are.posted;
        version = are.version;
        all_queues = are.all_queues;
        each_depth = are.each_depth;
        mail = are.mail;
        messages = are.messages;
      }

  pub keeping_reached : AreReached o t → AreReached o (all_keeping t)
  keeping_reached reached = (reached.0, keeping_refines t.post.depth (run_of_machine o t.post.depth reached.0) reached.1)

  module _ (by : AreReachedBy o t 0) where
    pub keeping_counted : AreReachedBy o (all_keeping t) 0
    keeping_counted =
        let none = none_made o t.post.depth by.0 (start_of_machine o) by.2 in
        (by.0, keeping_refines t.post.depth (run_of_machine o t.post.depth by.0) by.1, by.2, λ w kept is. nothing_yet t.workers w kept is ∙ sym (none.1 w))

    at_start : (w : ℕ) (s : WorkerState) → slice_get t.workers w ≡ Some s → HasMadeNone s
    at_start w s at =
        let none = none_made o t.post.depth by.0 (start_of_machine o) by.2 in
        let is = subst (λ (world : World). IsWorkerOf o w s (world.worker w)) none.0 (by.1.workers w s at) in
        record { log = is.log; version = is.version }

    pub none_made_yet : All HasMadeNone t.workers
    none_made_yet k d l = at_start k (get_or t.workers k d) (slice_get-get_or t.workers k d l)
