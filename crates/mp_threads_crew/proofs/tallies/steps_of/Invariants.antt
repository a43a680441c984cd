-- The steps of the workers that are done with, by their order, and the workers that are left.
use Rattle.std.proofs.Common.{◌≡◌, ◌+◌, ◌≤◌, ℕ, Some, drop, length, vec_capacity}
use Rattle.std.specs.Prelude.{slice_get}
use Rattle.std.specs.Vec.Iter.{into_iter_items}
use Rattle.mp_model.specs.Tables.{table_of}
use Rattle.mp_outline.specs.JobOutline.{outline_of}
use Rattle.mp_journal_laws.specs.Telling.{KeptTellFullLog}
use Rattle.mp_threads_crew.proofs.tallies.steps_of.Given as goal

abbrev pub invariant-loop-worker : goal.invariant-loop-worker
invariant-loop-worker g l = record {
  next : (goal.iterator-loop-worker g).can_next l.worker-iterator × (goal.iterator-loop-worker g).is_finite l.worker-iterator;
  left : into_iter_items l.worker-iterator ≡ drop (length l.kept.items) l.fn.workers.items;
  many : length l.kept.items + length (into_iter_items l.worker-iterator) ≡ length l.fn.workers.items;
  room : length l.kept.items + length (into_iter_items l.worker-iterator) ≤ vec_capacity l.kept;
  told : (w : ℕ) → (v : _) → slice_get l.kept.items w ≡ Some v → KeptTellFullLog (outline_of (table_of g.Q.Query.facts g.J.Naming.job) g.J.Naming.job) w v.items;
}
