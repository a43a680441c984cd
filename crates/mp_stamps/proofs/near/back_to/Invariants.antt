-- A step is at least one.
use Rattle.std.proofs.Common.{◌<◌}
use Rattle.mp_stamps.proofs.near.back_to.Given as goal

abbrev pub invariant-loop : goal.invariant-loop
invariant-loop l = 0 < l.step
