use Rattle.std.proofs.Common.{◌≡◌, ◌<◌, ℕ, [], map}
use Rattle.mp_audit.specs.Lists.{list_of}
use Rattle.mp_audit.proofs.left.Left.is_empty.Given as goal

abbrev pub invariant-loop-worker : goal.invariant-loop-worker
invariant-loop-worker l = (w : ℕ) → w < l.worker → list_of (map (λ s. s.now) l.self-inside.rest.items) w ≡ []
