-- Workers that a run of the machine leads to own bins and groups as its promises say.
use Rattle.std.proofs.Common.{◌≡◌, ℕ, ◌<◌, Some, subst, sym, arith}
use Rattle.std.specs.Prelude.{slice_get}
use Rattle.std.proofs.lemmas.Option.{slice_get_within}
use Rattle.mp_names.specs.Logs.{LogIsLegal}
use Rattle.mp_names.specs.Outlines.{Outline, OutlineIsSound}
use Rattle.mp_names.proofs.Steps.{applied_own}
use Rattle.mp_machine.specs.Runs.{run_of_machine}
use Rattle.mp_machine.proofs.Holding.{in_one_place}
use Rattle.mp_machine.proofs.Worlds.{run_right}
use Rattle.mp_worker_refinement.specs.State.{WorkerState}
use Rattle.mp_worker_refinement.specs.SystemState.{SystemState}
use Rattle.mp_plain.specs.Driven.{AreReached}
use Rattle.mp_plain.specs.Ownership.{KeepOwnership}
use Rattle.mp_tally.proofs.Full.{applied_once}

module _ (o : Outline) (ok : OutlineIsSound o) (t : SystemState) (reached : AreReached o t) where
  legal : (w : ℕ) (s : WorkerState) → slice_get t.workers w ≡ Some s → (w < o.workers) × LogIsLegal o w s.log
  legal w s is =
      let all = reached.1.all_workers in
      let within = slice_get_within t.workers w s is in
      let l : w < o.workers = omega arith in
      (l, subst (LogIsLegal o w) (sym (reached.1.workers w s is).log) ((run_right o ok t.post.depth reached.0).logs w l))

  pub keep_ownership : KeepOwnership o t
  keep_ownership = record {
    world = run_of_machine o t.post.depth reached.0;
    state = reached.1;
    bins = λ j b lj lb. in_one_place o ok t.post.depth (run_of_machine o t.post.depth reached.0) (run_right o ok t.post.depth reached.0) j b lj lb;
    owner = λ w j u k s is h. (applied_own o w s.log (legal w s is).1 j u k h).1;
    once = λ w s is. applied_once o ok w s.log (legal w s is).1;
  }
