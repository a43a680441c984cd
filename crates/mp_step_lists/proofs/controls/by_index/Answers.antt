use Rattle.std.proofs.Common.{ap, get_or, List}
use Rattle.mp_names.specs.declared.controls.Control.{Control}
use Rattle.mp_names.specs.Controls.{no_control}
use Rattle.mp_step_lists.proofs.Adding.{one_index}
use Rattle.mp_step_lists.proofs.controls.by_index.Goals as goal

pub loop-index-preserved : goal.loop-index-preserved
loop-index-preserved g c =
    let o = g.L.OutlineLists.outline c.args.lists.now in
    let i = c.loop-index.index in
    let controls = c.controls-controls.result.now in
    one_index o i (get_or controls i no_control).time c.workers-workers.result c.loop-index.entries.items c.send_to_each.new.entries.items c.in_ok-send_to_each.ensures c.loop-index.invariant (ap (λ (cs : List Control). (get_or cs i no_control).time) c.controls-controls.ensures.controls) c.workers-workers.ensures.workers
