-- So many lists, each of no steps.
use Rattle.std.proofs.Common.{◌≡◌, [], map, replicate}
use Rattle.mp_journal.proofs.reading.no_steps.Given as goal

abbrev pub invariant-loop : goal.invariant-loop
invariant-loop l = map (λ v. v.items) l.lists.items ≡ replicate l.counter []
