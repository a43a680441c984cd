-- The list of one more stage comes to those so far.
use Rattle.mp_group_lists.specs.Parts.{groups_in}
use Rattle.mp_group_lists.proofs.Held.{map_more, parts_in}
use Rattle.mp_group_lists.proofs.making.groups_by_stage.Goals as goal

pub loop-stage-preserved : goal.loop-stage-preserved
loop-stage-preserved g c =
    let o = g.L.OutlineLists.outline c.args.lists.now in
    map_more parts_in (groups_in o) c.loop-stage.groups.items c.push.new.self.items c.in_ok-groups_of.field-0 c.loop-stage.stage c.in_ok-push.ensures.items c.loop-stage.invariant c.in_ok-groups_of.ensures
