use Rattle.std.proofs.Common.{Contains, ap}
use Rattle.std.proofs.lemmas.Result.{on_err_weaker}
use Rattle.mp_model.specs.declared.record.Output.{Output}
use Rattle.mp_model.specs.Stages.{answer_rows}
use Rattle.mp_model.specs.Tables.{table_of}
use Rattle.mp_ordered.specs.InOrder.{InOrder}
use Rattle.mp_output.proofs.Held.{all_received}
use Rattle.mp_output.proofs.unsent.Unsent.hold.Goals as goal

pub invariant_of-self : goal.invariant_of-self
invariant_of-self g c =
    let rows = answer_rows (table_of g.Q.Query.facts g.J.Naming.job) g.J.Naming.job.events in
    all_received (Contains rows) c.args.row c.self.inside.rows.items c.insert.new.self.items c.insert.result c.insert.ensures.put (on_err_weaker c.insert.result (λ e. ap (λ (o : InOrder Output). o.items) e) c.insert.ensures.unchanged) c.requires c.self.invariant
