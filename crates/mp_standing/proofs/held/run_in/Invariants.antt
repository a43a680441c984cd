use Rattle.std.proofs.Common.{◌≡◌, ◌+◌, ◌==◌, drop}
use Rattle.std.specs.List.{prefix_len}
use Rattle.mp_standing.proofs.held.run_in.Given as goal

abbrev pub invariant-loop-index : goal.invariant-loop-index
invariant-loop-index l = prefix_len (λ e. e.time == l.time) l.list.items ≡ l.index + prefix_len (λ e. e.time == l.time) (drop l.index l.list.items)
