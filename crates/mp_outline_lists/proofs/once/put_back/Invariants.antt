-- The numbers so far tell the moments.
use Rattle.std.proofs.Common.{◌≡◌, map, take}
use Rattle.mp_outline_lists.specs.Packed.{moment_in}
use Rattle.mp_outline_lists.proofs.once.put_back.Given as goal

abbrev pub invariant-loop-number : goal.invariant-loop-number
invariant-loop-number l = l.moments.items ≡ map (moment_in l.width) (take l.number-index l.numbers)
