use Rattle.std.proofs.Common.{◌+◌}
use Rattle.mp_work_lists.specs.Parts.{group_work, move_work, record_work}
use Rattle.mp_work_lists.proofs.Growing.{more_and_more}
use Rattle.mp_work_lists.proofs.parts.add_stage.Goals as goal

pub returns : goal.returns
returns g c =
    let o = g.L.OutlineLists.outline c.args.lists.now in
    let j = c.args.stage in
    more_and_more (λ a t. record_work o j a t + move_work o j a t) (group_work o j) _ _ _
    (more_and_more (record_work o j) (move_work o j) _ _ _ c.in_ok-add_records.ensures c.in_ok-add_moves.ensures)
    c.in_ok-add_groups.ensures
