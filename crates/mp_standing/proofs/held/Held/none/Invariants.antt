use Rattle.std.proofs.Common.{◌≡◌, [], map, replicate}
use Rattle.mp_standing.proofs.held.Held.none.Given as goal

abbrev pub invariant-loop : goal.invariant-loop
invariant-loop l = map (λ o. o.items) l.lists.items ≡ replicate l.counter []
