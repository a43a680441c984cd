-- The names at the places so far are gathered.
use Rattle.std.proofs.Common.{◌≡◌, map, take}
use Rattle.mp_outline_lists.specs.Packed.{name_at}
use Rattle.mp_outline_lists.proofs.by_time.gathered.Given as goal

abbrev pub invariant-loop-number : goal.invariant-loop-number
invariant-loop-number l = l.moved.items ≡ map (name_at l.names) (take l.number-index l.numbers)
