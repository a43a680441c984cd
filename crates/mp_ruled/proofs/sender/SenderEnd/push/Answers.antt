use Rattle.std.proofs.Common.{◌≡◌, ◌∙◌, sym, ap}
use Rattle.crossbeam_queue.specs.Passes.{view, ruled_capacity}
use Rattle.mp_ruled.proofs.Keeps.{may_push, full}
use Rattle.mp_ruled.proofs.sender.SenderEnd.push.Goals as goal
use Rattle.mp_ruled.proofs.sender.SenderEnd.push.Goals.{in-Ok, in-Err}

pub push_as-requires-clause-rule : goal.push_as-requires-clause-rule
push_as-requires-clause-rule g c =
    let deep : ruled_capacity c.deref.result.now ≡ (view c.self.inside.pass).depth = ap (λ q. ruled_capacity q) c.deref.ensures ∙ c.self.invariant.deep in (
      may_push g.M.Named.names g.M.Named.from g.M.Named.to _ _ (view c.self.inside.pass) _ deep c.self.invariant.pushes (c.requires.edge.0 ∙ sym (ap (λ e. e.from) c.self.view_is), c.requires.edge.1 ∙ sym (ap (λ e. e.to) c.self.view_is)) (rw (← c.self.view_is) at c.requires.fresh),
      full g.M.Named.names g.M.Named.from g.M.Named.to _ _ c.self.invariant.pushes,
    )

pub returns-clause-room : goal.returns-clause-room
returns-clause-room g c =
    elim c.match-push_as.branch [
      | in-Ok w ↦ rw (w.result-is, ← c.self.view_is) (w.in-Ok.ensures.rule.1)
      | in-Err w ↦ rw w.result-is tt
    ]

pub returns-clause-full : goal.returns-clause-full
returns-clause-full g c =
    let deep : ruled_capacity c.deref.result.now ≡ (view c.self.inside.pass).depth = ap (λ q. ruled_capacity q) c.deref.ensures ∙ c.self.invariant.deep in
    elim c.match-push_as.branch [
      | in-Ok w ↦ rw w.result-is tt
      | in-Err w ↦ let held = w.in-Err.ensures.rule.2 in rw (w.result-is, ← c.self.view_is) (held.0, held.2, held.1 ∙ deep)
    ]
