-- The records of the blocks so far are all looked at, and of the time.
use Rattle.std.proofs.Common.{◌≡◌, ◌<◌, ◌≤◌, true, All, filter, length, take}
use Rattle.mp_ordered.specs.Blocks.{items_of}
use Rattle.mp_route.specs.Along.{goes_to, is_at}
use Rattle.mp_route.proofs.along.count_along.Given as goal

abbrev pub invariant-loop-block : goal.invariant-loop-block
invariant-loop-block l = record {
  looked : l.all.looked ≡ length (items_of (take l.block-index l.block-items));
  time : All (λ r. is_at l.along r ≡ true) (items_of (take l.block-index l.block-items));
  chosen : l.all.chosen ≡ length (filter (goes_to l.owners l.along) (items_of (take l.block-index l.block-items)));
  few : l.all.chosen ≤ 64;
  some : 0 < l.all.looked → 0 < l.all.chosen;
}
