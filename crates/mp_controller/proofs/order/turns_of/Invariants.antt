-- The turns so far are those of the first control records.
use Rattle.std.proofs.Common.{◌≡◌, map}
use Rattle.std.specs.List.{range_with_len}
use Rattle.mp_controller.specs.Turns.{turn_at}
use Rattle.mp_controller.proofs.order.turns_of.Given as goal

abbrev pub invariant-loop-index : goal.invariant-loop-index
invariant-loop-index l = l.turns.items ≡ map (turn_at l.controls) (range_with_len 0 l.index)
