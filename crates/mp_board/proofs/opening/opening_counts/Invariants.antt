-- The empty logs of the workers so far are counted.
use Rattle.mp_rows.specs.Below.{outline_of}
use Rattle.mp_stamps.specs.Counts.{SamePlaces}
use Rattle.mp_board.specs.Opening.{AreOpened}
use Rattle.mp_board.proofs.opening.opening_counts.Given as goal
use Rattle.mp_model.specs.Tables.{table_of}

abbrev pub invariant-loop-worker : goal.invariant-loop-worker
invariant-loop-worker g l = record {
  opened : AreOpened (outline_of (table_of g.Q.Query.facts g.J.Naming.job) g.J.Naming.job) l.worker l.counts;
  same : SamePlaces l.initial.counts l.counts;
}
