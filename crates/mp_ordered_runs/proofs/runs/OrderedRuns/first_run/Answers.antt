use Rattle.std.proofs.Common.{◌∙◌, sym}
use Rattle.mp_ordered_runs.proofs.Running.{first_run_is}
use Rattle.mp_ordered_runs.proofs.runs.OrderedRuns.first_run.Goals as goal

pub returns-clause-run : goal.returns-clause-run
returns-clause-run g c =
    let s = c.self.inside in
    rw (← c.self.view_is) (c.deref.ensures.value ∙ sym (first_run_is g.O.Kinds.same s.run.items s.rest.items c.self.invariant.kind c.self.invariant.ends))
