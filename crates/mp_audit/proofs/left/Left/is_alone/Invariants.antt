use Rattle.std.proofs.Common.{◌≡◌, ◌<◌, ℕ, None, get_or}
use Rattle.mp_audit.specs.Lists.{IsLater}
use Rattle.mp_audit.proofs.left.Left.is_alone.Given as goal

abbrev pub invariant-loop-other : goal.invariant-loop-other
invariant-loop-other l = (v : ℕ) → v < l.other → (v ≡ l.worker → ⊥) → IsLater (get_or l.self-inside.nexts.items v None) l.version
