-- The place is one of the list.
use Rattle.std.proofs.Math.Nat.{mod-lt}
use Rattle.mp_outline_lists.proofs.by_time.name_at.Goals as goal

pub stands_at-requires : goal.stands_at-requires
stands_at-requires c = mod-lt c.args.number c.requires
