use Rattle.std.proofs.Common.{SFits, w64, rules}
use Rattle.std.proofs.lemmas.Int.{to_z-of_z}
use Rattle.mp_board.proofs.Adding.{one_counted, one_dropped, one_room}
use Rattle.mp_board.proofs.totals.add_one.Goals as goal

pub returns-clause-counted : goal.returns-clause-counted
returns-clause-counted c =
    let fits : SFits w64 c.args.change.by = search rules in
    one_counted c.args.counts.now c.add.new.self c.args.change c.add.ensures.others (rw (to_z-of_z w64 c.args.change.by fits) at c.add.ensures.counted)

pub returns-clause-dropped : goal.returns-clause-dropped
returns-clause-dropped c =
    let fits : SFits w64 c.args.change.by = search rules in
    one_dropped c.args.counts.now c.add.new.self c.args.change c.add.ensures.others (rw (to_z-of_z w64 c.args.change.by fits) at c.add.ensures.counted) c.add.ensures.dropped

pub returns-clause-room : goal.returns-clause-room
returns-clause-room c =
    let fits : SFits w64 c.args.change.by = search rules in
    one_room c.args.counts.now c.add.new.self c.args.change c.add.ensures.others (rw (to_z-of_z w64 c.args.change.by fits) at c.add.ensures.counted) c.add.ensures.dropped fits
