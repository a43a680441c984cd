-- The packets so far, with those of the tallies that are left, are all.
use Rattle.std.proofs.Common.{◌≡◌, ◌++◌, drop}
use Rattle.mp_report.specs.Told.{packets_of}
use Rattle.mp_report.proofs.told.packets_of.Given as goal

abbrev pub invariant-loop-tally : goal.invariant-loop-tally
invariant-loop-tally l = l.packets.items ++ packets_of (drop l.tally-index l.tallies) ≡ packets_of l.tallies
