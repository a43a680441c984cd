-- The records so far are of the time, and so many of them go.
use Rattle.std.proofs.Common.{◌≡◌, ◌+◌, ◌<◌, ◌≤◌, true, All, filter, length, take}
use Rattle.mp_route.specs.Along.{goes_to, is_at}
use Rattle.mp_route.proofs.along.count_in.Given as goal

abbrev pub invariant-loop-looked : goal.invariant-loop-looked
invariant-loop-looked l = record {
  time : All (λ r. is_at l.along r ≡ true) (take l.looked l.block.items);
  chosen : l.chosen ≡ l.before + length (filter (goes_to l.owners l.along) (take l.looked l.block.items));
  few : l.chosen ≤ 64;
  some : 0 < l.looked → 0 < l.chosen;
}
