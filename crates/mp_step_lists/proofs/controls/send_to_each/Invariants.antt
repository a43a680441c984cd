-- The record is there for the workers so far.
use Rattle.std.proofs.Common.{◌≡◌, ◌++◌}
use Rattle.mp_step_lists.specs.Controls.{sent_to_each}
use Rattle.mp_step_lists.proofs.controls.send_to_each.Given as goal

abbrev pub invariant-loop-to : goal.invariant-loop-to
invariant-loop-to l = l.entries.items ≡ l.initial.entries.items ++ sent_to_each l.index l.time l.to
