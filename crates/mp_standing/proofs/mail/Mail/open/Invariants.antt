use Rattle.std.proofs.Common.{◌≡◌, [], map, replicate}
use Rattle.mp_standing.proofs.mail.Mail.open.Given as goal

abbrev pub invariant-loop : goal.invariant-loop
invariant-loop l = map (λ row. map (λ b. b.items) row.items) l.boxes.items ≡ replicate l.counter (replicate l.workers [])
