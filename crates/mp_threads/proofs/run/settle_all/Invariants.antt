use Rattle.std.proofs.Common.{◌≡◌, ◌+◌, ◌≤◌, ◌++◌, All, length, vec_capacity}
use Rattle.std.specs.Prelude.{map}
use Rattle.std.specs.Vec.Iter.{into_iter_items}
use Rattle.mp_threads_member.specs.Members.{HasDoneNothing}
use Rattle.mp_threads_place.specs.Places.{mark_at, mark_of}
use Rattle.mp_threads.proofs.run.settle_all.Given as goal

abbrev pub invariant-loop-member : goal.invariant-loop-member
invariant-loop-member g l = record {
  next : (goal.iterator-loop-member g).can_next l.member-iterator × (goal.iterator-loop-member g).is_finite l.member-iterator;
  marks : map mark_at l.places.items ++ map (λ m. mark_of m.worker) (into_iter_items l.member-iterator) ≡ map (λ m. mark_of m.worker) (into_iter_items l.fn.members);
  start : All HasDoneNothing (into_iter_items l.member-iterator);
  room : length l.places.items + length (into_iter_items l.member-iterator) ≤ vec_capacity l.places;
}
