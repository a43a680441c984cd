use Rattle.std.proofs.Common.{◌≡◌, ◌++◌, map, take}
use Rattle.mp_q_join.specs.Joining.{row_of}
use Rattle.mp_q_join.proofs.home.Home.push_rows.Given as goal

abbrev pub invariant-loop-id : goal.invariant-loop-id
invariant-loop-id l = l.rows.items ≡ l.fn.rows.items ++ map (row_of l.self) (take l.id-index l.auctions)
