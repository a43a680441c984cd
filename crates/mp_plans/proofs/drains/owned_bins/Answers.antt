use Rattle.std.proofs.Common.{◌∙◌, ap, sym}
use Rattle.mp_plans.proofs.Drained.{found, not_found}
use Rattle.mp_plans.proofs.drains.owned_bins.Goals as goal
use Rattle.mp_plans.proofs.drains.owned_bins.Goals.{then-owner-worker+in_ok-push, else-owner-worker}

pub loop-bin-preserved : goal.loop-bin-preserved
loop-bin-preserved c =
    elim c.if-owner-worker.branch [
      | then-owner-worker+in_ok-push w ↦ ap (λ v. v.items) w.bins-is ∙ found _ _ _ _ _ c.loop-bin.invariant (sym c.owner.ensures.owner ∙ w.if-owner-worker.true) (w.in_ok-push.ensures.items)
      | else-owner-worker w ↦ ap (λ v. v.items) w.bins-is ∙ not_found _ _ _ _ c.loop-bin.invariant (λ e. w.if-owner-worker.false (c.owner.ensures.owner ∙ e))
    ]
