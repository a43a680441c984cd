use Rattle.std.proofs.Common.{[], ◌∷◌, arith, length-append, refl}
use Rattle.mp_names.specs.Logs.{empty_log}
use Rattle.mp_worker_invariant.specs.Parts.{IsHostAt}
use Rattle.mp_worker_invariant.proofs.Items.{one_more_at}
use Rattle.mp_worker_parts.proofs.start.new_hosts.Goals as goal
use Rattle.mp_model.specs.Tables.{table_of}

pub loop-stage-preserved : goal.loop-stage-preserved
loop-stage-preserved g c =
    let q = table_of g.Q.Query.facts g.J.Naming.job in
    let all = c.loop-stage.invariant.all in
    let old = c.loop-stage.hosts.items in
    let made = c.in_ok-new in
    rw c.in_ok-push.ensures.items
    (record {
      all = omega (arith, all, length-append old (made.field-0 ∷ []));
      each = one_more_at (IsHostAt q g.J.Naming.job c.args.worker empty_log) old made.field-0 c.loop-stage.invariant.each (rw all (made.ensures.stage, made.ensures.worker, made.ensures.held));
    })

pub loop-stage-init : goal.loop-stage-init
loop-stage-init g c = rw c.new-hosts.ensures.items (record { all = refl; each = λ j d inside. absurd (omega arith) })

pub returns-clause-each : goal.returns-clause-each
returns-clause-each g c = c.loop-stage.invariant.each
