-- The entry that was next is right now, and it stands in front of the wakes.
use Rattle.std.proofs.Common.{arith, ◌∙◌}
use Rattle.std.proofs.lemmas.List.{drop-set-lt}
use Rattle.mp_tournament.proofs.Climbing.{climbs}
use Rattle.mp_tournament.proofs.firsts.renew.Goals as goal

pub loop-entry-preserved : goal.loop-entry-preserved
loop-entry-preserved c =
    let count = c.args.count in
    let tree = c.loop-entry.tree in
    let entry = c.loop-entry.entry in
    let order = c.loop-entry.invariant.order in record {
      order = climbs count entry tree c.earlier_of.result (omega arith) c.earlier_of.ensures order;
      wakes = drop-set-lt count tree entry c.earlier_of.result order.inside ∙ c.loop-entry.invariant.wakes;
    }
