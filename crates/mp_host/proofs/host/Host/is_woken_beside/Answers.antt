use Rattle.std.proofs.Common.{◌≡◌, ◌∙◌, ap}
use Rattle.mp_model.specs.Facts.{JobFacts}
use Rattle.mp_model.specs.Tables.{table_of}
use Rattle.mp_host_states.specs.States.{has_own_wake_beside}
use Rattle.mp_host.proofs.WakesOf.{own_beside, wakes_are_own}
use Rattle.mp_host.proofs.host.Host.is_woken_beside.Goals as goal

pub returns : goal.returns
returns g c =
    let job = g.J.Naming.job in
    let t = c.args.time in
    let k = c.args.key in
    let bins = c.self.inside.each_bin ∙ ap (λ (j : JobFacts). j.shape.bins) c.self.invariant.run in
    let own = wakes_are_own (table_of g.Q.Query.facts job) job _ c.self.invariant.order t k in
    let asked : c.has_wake_beside.result ≡ has_own_wake_beside c.self.inside.states c.args.from c.args.to t k = c.has_wake_beside.ensures in
    rw (← c.self.view_is) (asked ∙ own_beside c.self.inside.states job.shape.bins t k bins own c.args.from c.args.to)
