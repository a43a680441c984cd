-- The cells and wakes of the workers so far are added.
use Rattle.std.proofs.Common.{IsPermutation}
use Rattle.std.specs.List.{flat_map}
use Rattle.mp_collect.specs.Gathered.{cells_of, wakes_of}
use Rattle.mp_collect.proofs.gathered.gather.Given as goal

abbrev pub invariant-loop-own : goal.invariant-loop-own
invariant-loop-own g l = record {
  cells : IsPermutation (cells_of (flat_map (λ own. own.items) l.yielded)) l.cells.items;
  wakes : IsPermutation (wakes_of (flat_map (λ own. own.items) l.yielded)) l.wakes.items;
}
