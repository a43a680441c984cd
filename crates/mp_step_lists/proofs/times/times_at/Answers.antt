use Rattle.std.proofs.Common.{◌∙◌, ap}
use Rattle.std.proofs.lemmas.Result.{IfOk-weaker}
use Rattle.mp_chart.specs.Entries.{entries_of}
use Rattle.mp_step_lists.proofs.Fitting.{settled_fit}
use Rattle.mp_step_lists.proofs.times.times_at.Goals as goal

pub entries-requires : goal.entries-requires
entries-requires g c = settled_fit (g.L.OutlineLists.outline c.args.lists.now) c.deref.result.now c.args.stage c.args.names.now (c.deref.ensures.value ∙ c.in_ok-own.ensures)

pub returns : goal.returns
returns g c = IfOk-weaker c.entries.result _ _ (λ x h. h ∙ ap (entries_of (g.L.OutlineLists.outline c.args.lists.now)) (c.deref.ensures.value ∙ c.in_ok-own.ensures)) c.entries.ensures
