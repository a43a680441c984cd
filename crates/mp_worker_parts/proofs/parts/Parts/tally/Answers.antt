use Rattle.std.proofs.Common.{◌∙◌, ℕ, ap}
use Rattle.mp_worker_parts.proofs.Tallied.{names_moved}
use Rattle.mp_tally.specs.Tallies.{sent_packets}
use Rattle.mp_worker_parts.proofs.parts.Parts.tally.Goals as goal
use Rattle.mp_model.specs.Tables.{table_of}

pub returns-clause-moved : goal.returns-clause-moved
returns-clause-moved g c =
    let kept = c.self.invariant in
    let i = c.self.inside in
    rw (← c.self.view_is, c.in_ok-moved.ensures.moved, c.as_slice.ensures.value)
    (names_moved (table_of g.Q.Query.facts g.J.Naming.job) g.J.Naming.job i.log.worker i.log.log i.movers.items kept.parts.movers ∙ ap (λ (n : ℕ). sent_packets n i.log.log) kept.parts.all_movers)
