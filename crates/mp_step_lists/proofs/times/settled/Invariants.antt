-- The times of the control records so far.
use Rattle.std.proofs.Common.{◌≡◌, map, take}
use Rattle.mp_names.specs.declared.names.Name.TheVariants.{Settled}
use Rattle.mp_step_lists.proofs.times.settled.Given as goal

abbrev pub invariant-loop-control : goal.invariant-loop-control
invariant-loop-control l = l.names.items ≡ map (λ c. Settled c.stage c.time) (take l.control-index l.controls)
