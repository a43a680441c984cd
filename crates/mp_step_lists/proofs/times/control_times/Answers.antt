use Rattle.std.proofs.Common.{◌∙◌, Global, List, ap, map}
use Rattle.std.specs.declared.vec.Vec.{Vec}
use Rattle.mp_names.specs.declared.controls.Control.{Control}
use Rattle.mp_names.specs.declared.names.Name.TheVariants.{Settled}
use Rattle.mp_names.specs.Names.{ascending}
use Rattle.mp_names.specs.Outlines.{control_times}
use Rattle.mp_chart.specs.declared.entry.Entry.{Entry}
use Rattle.mp_chart.specs.Entries.{entries_of}
use Rattle.mp_step_lists.proofs.Adding.{own_times, pushed}
use Rattle.mp_step_lists.proofs.times.control_times.Goals as goal

pub loop-stage-preserved : goal.loop-stage-preserved
loop-stage-preserved g c =
    let o = g.L.OutlineLists.outline c.args.lists.now in
    let stage = c.loop-stage.stage in
    let names = c.deref.ensures.value ∙ c.in_ok-names.ensures ∙ ap (λ (cs : List Control). ascending (map (λ c. Settled c.stage c.time) cs)) c.controls.ensures.controls in
    pushed (λ (list : Vec Entry Global). list.items) (λ j. entries_of o (control_times o j)) stage c.loop-stage.times.items c.push.new.self.items c.in_ok-times_at.field-0 c.in_ok-push.ensures.items c.loop-stage.invariant (c.in_ok-times_at.ensures ∙ own_times o stage c.deref.result.now names)
