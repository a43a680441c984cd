-- Workers that a run of the machine leads to keep the pace where the job is paced.
use Rattle.std.proofs.Common.{◌≡◌, ℕ, ◌<◌, Some, subst, sym, arith}
use Rattle.std.specs.Prelude.{slice_get}
use Rattle.std.proofs.lemmas.Option.{slice_get_within}
use Rattle.mp_names.specs.declared.names.Name.TheVariants.{Ctrl, Packet}
use Rattle.mp_names.specs.Logs.{Log}
use Rattle.mp_names.specs.Names.{In}
use Rattle.mp_names.specs.Outlines.{Outline, OutlineIsSound, owner_at}
use Rattle.mp_machine.specs.Runs.{run_of_machine}
use Rattle.mp_machine.proofs.Pacing.{one_time, packets_taken}
use Rattle.mp_worker_refinement.specs.State.{WorkerState}
use Rattle.mp_worker_refinement.specs.SystemState.{SystemState}
use Rattle.mp_plain.specs.Driven.{AreReached}
use Rattle.mp_plain.specs.Pacing.{KeepPace}

module _ (o : Outline) (ok : OutlineIsSound o) (t : SystemState) (reached : AreReached o t) where
  here : (w : ℕ) (s : WorkerState) → slice_get t.workers w ≡ Some s → w < o.workers
  here w s is =
      let all = reached.1.all_workers in
      let within = slice_get_within t.workers w s is in
      omega arith

  pub keep_pace : KeepPace o t
  keep_pace = record {
    world = run_of_machine o t.post.depth reached.0;
    state = reached.1;
    one_time = λ paced j b m i c n there then on_one on_other. one_time o ok t.post.depth reached.0 paced j b m i c n there then on_one on_other;
    wait = λ paced w i v j b m sender owner at_sender sent move before at_owner.
        let sent_there = subst (λ (log : Log). In (Ctrl i v) log.sent) (reached.1.workers w sender at_sender).log sent in
        let took_there = packets_taken o ok t.post.depth reached.0 paced w i v j b m (here w sender at_sender) sent_there move before in
        subst (λ (log : Log). In (Packet j b m) log.took) (sym (reached.1.workers (owner_at o j b m) owner at_owner).log) took_there;
  }
