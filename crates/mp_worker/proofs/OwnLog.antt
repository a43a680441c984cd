-- What a worker knows of its own log, by what it saw.
use Rattle.std.proofs.Common.{◌<◌, ℕ, subst}
use Rattle.mp_names.specs.declared.kinds.Kind.TheVariants.{Write}
use Rattle.mp_names.specs.declared.locations.Loc.TheVariants.{OutMail}
use Rattle.mp_names.specs.declared.names.Name.TheVariants.{Written}
use Rattle.mp_names.specs.Logs.{LogIsLegal, with_settled}
use Rattle.mp_names.specs.Outlines.{Outline, OutlineIsSound}
use Rattle.mp_names.proofs.Exact.{passed_from_ended}
use Rattle.mp_names.proofs.Keeps.{written_keeps}
use Rattle.mp_stamps.specs.Seen.{SeenIsDone, seen_at}
use Rattle.mp_machine.specs.Promises.{LogIsFull}
use Rattle.mp_machine.proofs.Full.{full}
use Rattle.mp_worker_refinement.specs.State.{CanMake, WorkerState}
use Rattle.mp_worker_refinement.specs.SystemState.{KnowsTheEnd}

module _ (o : Outline) (ok : OutlineIsSound o) (s : WorkerState) (l : s.number < o.workers) (legal : LogIsLegal o s.number s.log) (done : SeenIsDone o s.number s.log s.seen) where
  -- worker 0 may write the next time
  pub legal_with_time : (t : ℕ) → CanMake o Write s (Written t) → LogIsLegal o 0 (with_settled s.log (Written t))
  legal_with_time t can =
      subst (λ (w : ℕ). LogIsLegal o w (with_settled s.log (Written t))) can.next.0
      (written_keeps o ok s.number l s.log legal t can.next.0 can.next.1 (done OutMail t tt can.ready))

  -- where it knows the end it has done all that it has to do
  pub full_if_over : KnowsTheEnd o s → LogIsFull o s.number s.log
  full_if_over know =
      full o ok s.number s.log legal (λ t early. done OutMail t tt (passed_from_ended o.until (seen_at s.seen OutMail) (know.done OutMail tt) t early)) know.written
