-- The cells and wakes of the states so far are added.
use Rattle.std.proofs.Common.{◌++◌, IsPermutation}
use Rattle.mp_collect.specs.Gathered.{cells_of, wakes_of}
use Rattle.mp_collect.proofs.gathered.add_states.Given as goal

abbrev pub invariant-loop-stage : goal.invariant-loop-stage
invariant-loop-stage g l = record {
  cells : IsPermutation (l.fn.cells.items ++ cells_of l.yielded) l.cells.items;
  wakes : IsPermutation (l.fn.wakes.items ++ wakes_of l.yielded) l.wakes.items;
}
