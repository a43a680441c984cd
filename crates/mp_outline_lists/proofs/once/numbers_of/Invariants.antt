-- The numbers so far tell the moments so far.
use Rattle.std.proofs.Common.{◌≡◌, map, take}
use Rattle.mp_outline_lists.specs.Packed.{moment_in}
use Rattle.mp_outline_lists.proofs.once.numbers_of.Given as goal

abbrev pub invariant-loop-moment : goal.invariant-loop-moment
invariant-loop-moment l = map (moment_in l.width) l.numbers.items ≡ take l.moment-index l.moments
