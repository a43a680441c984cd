-- The records of the turns so far are appended, and there is room for the others.
use Rattle.std.proofs.Common.{◌≡◌, ◌+◌, ◌-◌, ◌*◌, ◌≤◌, ◌++◌, get_or, length, map, vec_len}
use Rattle.std.specs.List.{range_with_len}
use Rattle.std.specs.Vec.{vec_capacity}
use Rattle.mp_plans.specs.Drains.{worker_of_turn}
use Rattle.mp_plans.proofs.drains.drain.Given as goal

abbrev pub invariant-loop-turn : goal.invariant-loop-turn
invariant-loop-turn l =
    (l.list.items ≡ l.initial.list.items ++ map (λ turn. record { time = l.time + turn * l.gap; stage = l.stage; bin = get_or l.bin-items turn 0; worker = worker_of_turn l.shape l.worker turn }) (range_with_len 0 l.turn))
    × (vec_len l.list + (length l.bin-items - l.turn) ≤ vec_capacity l.list)
