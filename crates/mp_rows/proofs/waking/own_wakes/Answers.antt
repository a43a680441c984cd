use Rattle.std.proofs.Common.{sym, ◌∙◌}
use Rattle.mp_model.specs.Tables.{table_of}
use Rattle.mp_rows.proofs.Wakes.{own_bin}
use Rattle.mp_rows.proofs.waking.own_wakes.Goals as goal

pub returns-then-first_owner-worker : goal.returns-then-first_owner-worker
returns-then-first_owner-worker g c =
    let job = c.args.job.now in
    own_bin (table_of g.Q.Query.facts job) job c.args.worker c.args.bin c.opening_wakes.result.now (sym c.first_owner.ensures.owner ∙ c.if-first_owner-worker.true) c.opening_wakes.ensures
