-- Workers that have done nothing are at the start of the machine.
use Rattle.std.proofs.Common.{◌≡◌, ℕ, All, Bool, List, [], ◌∷◌, Some, length, refl, sym, ap, subst}
use Rattle.std.specs.Option.{option_map_or}
use Rattle.std.specs.Prelude.{replicate, slice_get}
use Rattle.mp_names.specs.declared.names.Name.{Name}
use Rattle.mp_names.specs.Logs.{empty_log}
use Rattle.mp_names.specs.Outlines.{Outline, OutlineIsSound}
use Rattle.mp_mailbox.specs.Queues.{Queues, empty_queues}
use Rattle.mp_machine.specs.Worlds.{start_of_machine}
use Rattle.mp_worker_refinement.specs.Laws.{IsNewWorker}
use Rattle.mp_worker_refinement.specs.State.{WorkerState}
use Rattle.mp_worker_refinement.specs.SystemState.{Refines, SystemState}
use Rattle.mp_worker_refinement.proofs.Begins.{opening_is_the_start}
use Rattle.mp_worker.specs.Below.{no_steps}
use Rattle.mp_plain.specs.Driven.{AreReached, AreReachedBy}
use Rattle.mp_plain.proofs.Journaled.{nothing_kept}

module _ (o : Outline) (ok : OutlineIsSound o) (t : SystemState) (depth : ℕ) (all : length t.workers ≡ o.workers) (new : (w : ℕ) (s : WorkerState) → slice_get t.workers w ≡ Some s → IsNewWorker o w s)
    (logs : t.board.logs ≡ replicate o.workers empty_log) (version : t.board.version ≡ 0) (post : t.post ≡ empty_queues o.workers depth) where
  pub are_at_start : Refines o depth t (start_of_machine o)
  are_at_start = opening_is_the_start o depth t ok all new logs version post

  begun : Refines o t.post.depth t (start_of_machine o)
  begun = subst (λ (d : ℕ). Refines o d t (start_of_machine o)) (sym (ap (λ (p : Queues (List Name)). p.depth) post)) are_at_start

  pub begin_reached : AreReached o t
  begin_reached = ([], begun)

  -- no step is made, and none is kept
  pub begin_counted : (keeps : Bool) → All (λ (s : WorkerState). s.steps ≡ no_steps keeps) t.workers → AreReachedBy o t 0
  begin_counted keeps kept = ([], begun, refl, nothing_kept keeps t.workers kept)

-- the first of workers that have done nothing has an empty log, and where there is none so is what stands for it
pub first_is_empty : (o : Outline) (xs : List WorkerState) → ((w : ℕ) (s : WorkerState) → slice_get xs w ≡ Some s → IsNewWorker o w s) → option_map_or (λ (s : WorkerState). s.log) (slice_get xs 0) empty_log ≡ empty_log
first_is_empty o [] new = refl
first_is_empty o (s ∷ xs) new = (new 0 s refl).log
