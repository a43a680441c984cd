-- Each number so far stands at its place.
use Rattle.std.proofs.Common.{◌≡◌, ℕ, ◌<◌, get_or, length}
use Rattle.mp_controller.proofs.order.list_order.Given as goal

abbrev pub invariant-loop-index : goal.invariant-loop-index
invariant-loop-index l = record {
  as_many : length l.order.items ≡ l.index;
  at : (p : ℕ) → p < length l.order.items → get_or l.order.items p 0 ≡ p;
}
