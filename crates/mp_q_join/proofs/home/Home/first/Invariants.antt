use Rattle.std.proofs.Common.{◌≡◌, drop}
use Rattle.mp_q_join.specs.Joining.{first_home}
use Rattle.mp_q_join.proofs.home.Home.first.Given as goal

abbrev pub invariant-loop-rec : goal.invariant-loop-rec
invariant-loop-rec l = first_home (drop l.rec-index l.recs) ≡ first_home l.recs
