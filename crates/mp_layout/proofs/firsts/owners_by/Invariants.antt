-- Those that were put down so far, which stand at the list's end, are in the table.
use Rattle.std.proofs.Common.{◌-◌, drop, length}
use Rattle.mp_layout.specs.FirstTable.{AreOwnersBy}
use Rattle.mp_layout.proofs.firsts.owners_by.Given as goal

abbrev pub invariant-loop-put : goal.invariant-loop-put
invariant-loop-put l = AreOwnersBy l.shape (drop (length l.firsts - l.put) l.firsts) l.owners.items
