-- So many lists, each of no entries.
use Rattle.std.proofs.Common.{◌≡◌, [], map, replicate}
use Rattle.mp_parted.proofs.parting.no_entries.Given as goal

abbrev pub invariant-loop : goal.invariant-loop
invariant-loop l = map (λ v. v.items) l.parts.items ≡ replicate l.counter []
