-- The lists that are taken, and the workers that are left.
use Rattle.std.proofs.Common.{[], ◌≡◌, ◌+◌, ◌≤◌, ◌++◌, length, map, vec_capacity}
use Rattle.std.specs.Prelude.{unwrap_or}
use Rattle.std.specs.Vec.Iter.{into_iter_items}
use Rattle.mp_plain.proofs.journals.lists_of.Given as goal

abbrev pub invariant-loop-worker : goal.invariant-loop-worker
invariant-loop-worker g l = record {
  next : (goal.iterator-loop-worker g).can_next l.worker-iterator × (goal.iterator-loop-worker g).is_finite l.worker-iterator;
  lists : map (λ kept. kept.items) l.lists.items ++ map (λ s. unwrap_or s.steps []) (into_iter_items l.worker-iterator) ≡ map (λ s. unwrap_or s.steps []) l.fn.workers.items;
  room : length l.lists.items + length (into_iter_items l.worker-iterator) ≤ vec_capacity l.lists;
}
