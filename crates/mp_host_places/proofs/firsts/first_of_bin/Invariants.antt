-- The first wake so far and that of the states of the bin that are left are the first of all of them.
use Rattle.std.proofs.Common.{◌≡◌, drop}
use Rattle.mp_host_laws.specs.Hosted.{first_wake_of}
use Rattle.mp_tournament.specs.Firsts.{earlier_of}
use Rattle.mp_host_places.specs.FirstWakes.{of_bin}
use Rattle.mp_host_places.proofs.firsts.first_of_bin.Given as goal

abbrev pub invariant-loop-one : goal.invariant-loop-one
invariant-loop-one g l = earlier_of l.first (first_wake_of (of_bin l.bin (drop l.one-index l.held))) ≡ first_wake_of (of_bin l.bin l.held)
