use Rattle.std.proofs.Common.{◌≡◌, ◌+◌, ◌*◌, ◌/◌, map}
use Rattle.std.specs.List.{range_with_len}
use Rattle.mp_q_window.proofs.windows.next_ends.Given as goal

abbrev pub invariant-loop-i : goal.invariant-loop-i
invariant-loop-i l = l.ends ≡ map (λ i. (l.time / l.slide + 1 + i) * l.slide) (range_with_len 0 l.i)
