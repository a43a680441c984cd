use Rattle.std.proofs.Common.{◌≡◌, [], replicate}
use Rattle.mp_audit_player.proofs.starting.no_records.Given as goal

abbrev pub invariant-loop : goal.invariant-loop
invariant-loop l = l.held.items ≡ replicate l.counter (replicate l.workers [])
