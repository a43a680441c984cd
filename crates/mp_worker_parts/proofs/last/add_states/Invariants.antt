-- The states that are added, and those that are left.
use Rattle.std.proofs.Common.{◌≡◌, ◌+◌, ◌≤◌, ◌++◌, length, map, vec_capacity}
use Rattle.std.specs.Vec.Iter.{into_iter_items}
use Rattle.mp_worker_parts.proofs.last.add_states.Given as goal

abbrev pub invariant-loop-one : goal.invariant-loop-one
invariant-loop-one g l = record {
  next : (goal.iterator-loop-one g).can_next l.one-iterator × (goal.iterator-loop-one g).is_finite l.one-iterator;
  states : l.states.items ++ map (λ s. (l.stage, s.state)) (into_iter_items l.one-iterator) ≡ l.initial.states.items ++ map (λ s. (l.stage, s.state)) (into_iter_items l.initial.one-iterator);
  room : length l.states.items + length (into_iter_items l.one-iterator) ≤ vec_capacity l.states;
}
