-- The times of the control records so far are added.
use Rattle.std.proofs.Common.{◌≡◌, ◌++◌, take}
use Rattle.mp_shares.specs.Times.{control_times}
use Rattle.mp_shares.proofs.times.add_control_times.Given as goal

abbrev pub invariant-loop-control : goal.invariant-loop-control
invariant-loop-control l = l.times.items ≡ l.initial.times.items ++ control_times (take l.control-index l.controls)
