-- The cells so far, with those of the entries that are left, are all.
use Rattle.std.proofs.Common.{◌≡◌, ◌++◌, map}
use Rattle.mp_collect.specs.Gathered.{as_cell}
use Rattle.mp_collect.proofs.gathered.add_cells.Given as goal

abbrev pub invariant-loop-key : goal.invariant-loop-key
invariant-loop-key g l = l.cells.items ++ map (as_cell l.stage) l.key-iterator ≡ l.fn.cells.items ++ map (as_cell l.stage) l.fn.own.entries
