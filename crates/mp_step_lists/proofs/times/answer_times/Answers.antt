use Rattle.std.proofs.Common.{◌∙◌, ap}
use Rattle.std.proofs.lemmas.Result.{IfOk-weaker}
use Rattle.mp_chart.specs.Entries.{entries_of}
use Rattle.mp_step_lists.proofs.Fitting.{written_fit}
use Rattle.mp_step_lists.proofs.times.answer_times.Goals as goal

pub entries-requires : goal.entries-requires
entries-requires g c = written_fit (g.L.OutlineLists.outline c.args.lists.now) c.deref.result.now c.are_sound.ensures.sound (c.deref.ensures.value ∙ c.in_ok-names.ensures)

pub returns : goal.returns
returns g c = IfOk-weaker c.entries.result _ _ (λ x h. h ∙ ap (entries_of (g.L.OutlineLists.outline c.args.lists.now)) (c.deref.ensures.value ∙ c.in_ok-names.ensures)) c.entries.ensures
