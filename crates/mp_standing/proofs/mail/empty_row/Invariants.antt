use Rattle.std.proofs.Common.{◌≡◌, [], map, replicate}
use Rattle.mp_standing.proofs.mail.empty_row.Given as goal

abbrev pub invariant-loop : goal.invariant-loop
invariant-loop l = map (λ b. b.items) l.row.items ≡ replicate l.counter []
