-- The events so far, and those that are left by the last draw, are all of them.
use Rattle.std.proofs.Common.{◌≡◌, ◌-◌, ◌++◌}
use Rattle.mp_make.specs.Made.{events_from, made_events}
use Rattle.mp_make.proofs.made.make_events.Given as goal

abbrev pub invariant-loop-index : goal.invariant-loop-index
invariant-loop-index l = l.events.items ++ events_from l.index (l.count - l.index) l.draws ≡ made_events l.count l.fn.seed
