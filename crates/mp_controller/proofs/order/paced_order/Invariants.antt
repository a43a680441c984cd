-- The order so far has the indices of the first turns.
use Rattle.std.proofs.Common.{◌≡◌, map, take}
use Rattle.mp_controller.proofs.order.paced_order.Given as goal

abbrev pub invariant-loop-turn : goal.invariant-loop-turn
invariant-loop-turn l = l.order.items ≡ map (λ t. t.index) (take l.turn-index l.turn-items)
