use Rattle.std.proofs.Common.{◌∙◌, sym}
use Rattle.mp_model.specs.Tables.{table_of}
use Rattle.mp_host.proofs.Kept.{one_first, other_first}
use Rattle.mp_host.proofs.host.first_held.Goals as goal
use Rattle.mp_host.proofs.host.first_held.Goals.{then-owner-worker+in_ok-state+in_ok-push, else-owner-worker}

pub loop-bin-preserved : goal.loop-bin-preserved
loop-bin-preserved g c =
    let job = c.args.job.now in
    let q = table_of g.Q.Query.facts job in
    let owner = c.first_owner-owner.ensures.owner in
    elim c.if-owner-worker.branch [
      | then-owner-worker+in_ok-state+in_ok-push w ↦
          rw (w.held-is, w.in_ok-push.ensures.items) (one_first q job c.args.stage c.args.worker c.loop-bin.bin c.loop-bin.held.items c.loop-bin.invariant w.in_ok-state.state w.in_ok-state.ensures (sym owner ∙ w.if-owner-worker.true))
      | else-owner-worker w ↦
          rw w.held-is (other_first q job c.args.stage c.args.worker c.loop-bin.bin c.loop-bin.held.items c.loop-bin.invariant (λ e. w.if-owner-worker.false (owner ∙ e)))
    ]
