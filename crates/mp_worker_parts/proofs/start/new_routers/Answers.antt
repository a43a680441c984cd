use Rattle.std.proofs.Common.{[], ◌∷◌, arith, length-append, refl}
use Rattle.mp_names.specs.Logs.{empty_log}
use Rattle.mp_worker_invariant.specs.Parts.{IsRouterAt}
use Rattle.mp_worker_invariant.proofs.Items.{one_more_at}
use Rattle.mp_worker_parts.proofs.start.new_routers.Goals as goal
use Rattle.mp_model.specs.Tables.{table_of}

pub loop-stage-preserved : goal.loop-stage-preserved
loop-stage-preserved g c =
    let q = table_of g.Q.Query.facts g.J.Naming.job in
    let all = c.loop-stage.invariant.all in
    rw c.in_ok-push.ensures.items
    (record {
      all = omega (arith, all, length-append c.loop-stage.routers.items (c.new.result ∷ []));
      each = λ w. one_more_at (IsRouterAt q g.J.Naming.job w empty_log) c.loop-stage.routers.items c.new.result (c.loop-stage.invariant.each w) (rw all (c.new.ensures.stage, c.new.ensures.unsent w));
    })

pub loop-stage-init : goal.loop-stage-init
loop-stage-init g c = rw c.new-routers.ensures.items (record { all = refl; each = λ w j d inside. absurd (omega arith) })

pub returns-clause-each : goal.returns-clause-each
returns-clause-each g c = c.loop-stage.invariant.each
