use Rattle.std.proofs.Common.{map}
use Rattle.std.proofs.lemmas.List.Elements.{All-append}
use Rattle.mp_model.specs.Tables.{table_of}
use Rattle.mp_tally.specs.Tallies.{MovedHasKeys, moved_of}
use Rattle.mp_tally.proofs.Packets.{keys_moved, told_more}
use Rattle.mp_tally.proofs.tally.moved_so_far.Goals as goal

pub loop-one-preserved : goal.loop-one-preserved
loop-one-preserved g c =
    let job = g.J.Naming.job in
    let q = table_of g.Q.Query.facts job in
    let l = c.loop-one in
    let m = c.one-item.result in
    let here = map (moved_of m.stage) m.sent in
    let told = c.in_ok-push_moved.ensures in
    record {
      moved = told_more c.args.movers.now l.one-index m l.moved.items _ c.loop-one-test.true c.one-item.is l.invariant.moved told.moved;
      keys = rw told.moved (All-append (MovedHasKeys q job) l.moved.items here l.invariant.keys (keys_moved q job m.stage m.sent told.keys));
    }
