-- The workers that are done, by their order, and the places that are left.
use Rattle.std.proofs.Common.{◌≡◌, ◌+◌, ◌≤◌, ◌++◌, ◌∷◌, All, IsTrue, Ok, length, true, vec_capacity}
use Rattle.std.specs.Prelude.{map}
use Rattle.std.specs.Vec.Iter.{into_iter_items}
use Rattle.mp_model.specs.Tables.{table_of}
use Rattle.mp_outline.specs.JobOutline.{outline_of}
use Rattle.mp_threads_member.specs.Driving.{IsFinished}
use Rattle.mp_threads_place.specs.Places.{mark_at, mark_of}
use Rattle.mp_threads.proofs.run.finish_all.Given as goal

abbrev pub invariant-loop-place : goal.invariant-loop-place
invariant-loop-place g l = record {
  next : (goal.iterator-loop-place g).can_next l.place-iterator × (goal.iterator-loop-place g).is_finite l.place-iterator;
  over : IsTrue l.all → l.driven ≡ Ok true;
  marks : IsTrue l.all → map mark_of l.done.items ++ map mark_at (into_iter_items l.place-iterator) ≡ mark_of l.fn.first ∷ map mark_at l.fn.places.items;
  room : length l.done.items + length (into_iter_items l.place-iterator) ≤ vec_capacity l.done;
  finished : IsTrue l.all → All (IsFinished (outline_of (table_of g.Q.Query.facts g.J.Naming.job) g.J.Naming.job)) l.done.items;
}
