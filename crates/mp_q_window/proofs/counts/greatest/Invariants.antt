use Rattle.std.proofs.Common.{◌≡◌, take}
use Rattle.mp_q_window.specs.Counts.{greatest_of}
use Rattle.mp_q_window.proofs.counts.greatest.Given as goal

abbrev pub invariant-loop-rec : goal.invariant-loop-rec
invariant-loop-rec l = l.greatest ≡ greatest_of (take l.rec-index l.recs)
