use Rattle.std.proofs.Common.{◌≡◌, take}
use Rattle.mp_q_join.specs.Selling.{after_records, cell_at}
use Rattle.mp_q_join.proofs.selling.Selling.after.Given as goal

abbrev pub invariant-loop-rec : goal.invariant-loop-rec
invariant-loop-rec l = l.cell ≡ after_records (cell_at l.group.woken l.self) (take l.rec-index l.rec-items)
