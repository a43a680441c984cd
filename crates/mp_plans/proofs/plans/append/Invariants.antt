-- The records of the bins so far are appended, and there is room for the others.
use Rattle.std.proofs.Common.{◌≡◌, ◌+◌, ◌-◌, ◌≤◌, ◌++◌, map, vec_len}
use Rattle.std.specs.List.{range_with_len}
use Rattle.std.specs.Vec.{vec_capacity}
use Rattle.mp_plans.specs.Plans.{time_by, worker_by}
use Rattle.mp_plans.proofs.plans.append.Given as goal

abbrev pub invariant-loop-bin : goal.invariant-loop-bin
invariant-loop-bin l =
    (l.list.items ≡ l.initial.list.items ++ map (λ bin. record { time = time_by l.pace l.time bin; stage = l.stage; bin = bin; worker = worker_by l.shape l.shift bin }) (range_with_len 0 l.bin))
    × (vec_len l.list + (l.shape.bins - l.bin) ≤ vec_capacity l.list)
