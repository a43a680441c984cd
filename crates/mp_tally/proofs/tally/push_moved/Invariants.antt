-- The packets of the stage so far, behind those that were there.
use Rattle.std.proofs.Common.{◌≡◌, ◌++◌, map, take}
use Rattle.mp_tally.specs.Tallies.{moved_of}
use Rattle.mp_tally.proofs.tally.push_moved.Given as goal

abbrev pub invariant-loop-sent : goal.invariant-loop-sent
invariant-loop-sent g l = l.moved.items ≡ l.fn.moved.items ++ map (moved_of l.movers.stage) (take l.sent-index l.movers.sent)
