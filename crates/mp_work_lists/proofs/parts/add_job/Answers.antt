use Rattle.std.proofs.Common.{◌+◌}
use Rattle.mp_player_laws.specs.WorkLeft.{added_below}
use Rattle.mp_work_lists.specs.Parts.{control_work, row_work, stage_work}
use Rattle.mp_work_lists.proofs.Growing.{more_and_more}
use Rattle.mp_work_lists.proofs.parts.add_job.Goals as goal

pub returns : goal.returns
returns g c =
    let o = g.L.OutlineLists.outline c.args.lists.now in
    more_and_more (λ a t. control_work o a t + added_below o.stages (λ j. stage_work o j a t)) (row_work o) _ _ _
    (more_and_more (control_work o) (λ a t. added_below o.stages (λ j. stage_work o j a t)) _ _ _ c.in_ok-add_controls.ensures c.in_ok-add_stages.ensures)
    c.in_ok-add_rows.ensures
