use Rattle.std.proofs.Common.{◌≡◌, take}
use Rattle.mp_q_simple.specs.Bids.{rows_of}
use Rattle.mp_q_simple.proofs.bids.rows_of.Given as goal

abbrev pub invariant-loop-rec : goal.invariant-loop-rec
invariant-loop-rec g l = l.rows.items ≡ rows_of (g.R.RowOf.rows (g.R.RowOf.values l.rule)).row (take l.rec-index l.recs)
