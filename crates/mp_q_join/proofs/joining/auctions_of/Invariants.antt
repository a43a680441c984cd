use Rattle.std.proofs.Common.{◌≡◌, take}
use Rattle.mp_q_join.specs.Joining.{auctions_of}
use Rattle.mp_q_join.proofs.joining.auctions_of.Given as goal

abbrev pub invariant-loop-rec : goal.invariant-loop-rec
invariant-loop-rec l = l.auctions.items ≡ auctions_of (take l.rec-index l.recs)
