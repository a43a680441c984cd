-- Past those that are held the counts are 0.
use Rattle.std.proofs.Common.{◌≤◌, sym, rules, length}
use Rattle.mp_stamps.proofs.Joined.{none_there}
use Rattle.mp_stamps.proofs.piece.Piece.at.Goals as goal

pub returns-else-index-len : goal.returns-else-index-len
returns-else-index-len c =
    let past : length c.self.inside.counts.items ≤ c.args.index = search rules in
    rw (← c.self.view_is) (sym (none_there c.self.inside.counts.items c.args.index c.self.invariant.piece c.requires past))
