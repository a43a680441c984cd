-- The control records so far are added.
use Rattle.std.proofs.Common.{◌≡◌, ◌++◌, map, take, pos}
use Rattle.mp_names.specs.declared.locations.Loc.TheVariants.{Ctl}
use Rattle.mp_rows.specs.Entries.{change_at}
use Rattle.mp_rows.proofs.opening.add_controls.Given as goal

abbrev pub invariant-loop-control : goal.invariant-loop-control
invariant-loop-control l = l.entries.items ≡ l.initial.entries.items ++ map (λ c. change_at Ctl c.time (pos l.workers)) (take l.control-index l.controls)
