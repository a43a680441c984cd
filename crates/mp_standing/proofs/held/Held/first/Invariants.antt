use Rattle.std.proofs.Common.{map}
use Rattle.mp_standing.proofs.Least.{IsLeastBelow}
use Rattle.mp_standing.proofs.held.Held.first.Given as goal

abbrev pub invariant-loop-list : goal.invariant-loop-list
invariant-loop-list l = IsLeastBelow (map (λ o. o.items) l.list-items) l.list-index l.least
