use Rattle.std.proofs.Common.{◌≡◌, take}
use Rattle.mp_standing.specs.Held.{with_all}
use Rattle.mp_standing.proofs.held.Held.put_all.Given as goal

abbrev pub invariant-loop-entry : goal.invariant-loop-entry
invariant-loop-entry l = l.self ≡ with_all l.initial.self (take l.entry-index l.entries)
