use Rattle.std.proofs.Common.{map, Global}
use Rattle.std.specs.declared.vec.Vec.{Vec}
use Rattle.mp_chart.specs.declared.entry.Entry.{Entry}
use Rattle.mp_step_lists.specs.Tables.{packets_by_worker}
use Rattle.mp_step_lists.proofs.Adding.{pushed}
use Rattle.mp_step_lists.proofs.packets.packets_to_send.Goals as goal

pub loop-stage-preserved : goal.loop-stage-preserved
loop-stage-preserved g c =
    pushed (λ (row : Vec (Vec Entry Global) Global). map (λ (list : Vec Entry Global). list.items) row.items) (packets_by_worker (g.L.OutlineLists.outline c.args.lists.now)) c.loop-stage.stage c.loop-stage.packets.items c.push.new.self.items _ c.in_ok-push.ensures.items c.loop-stage.invariant c.in_ok-packets_at.ensures
