use Rattle.std.proofs.Common.{◌∙◌, ap, map}
use Rattle.std.proofs.lemmas.List.{take_all}
use Rattle.mp_names.specs.Outlines.{time_of}
use Rattle.mp_step_lists.proofs.times.row_times.Goals as goal

pub returns : goal.returns
returns g c =
    let o = g.L.OutlineLists.outline c.args.lists.now in
    c.loop-row.invariant ∙ ap (map (time_of o)) (take_all c.loop-row.row-index c.rows-row-items.result.now c.loop-row-test.false ∙ c.rows-row-items.ensures)
