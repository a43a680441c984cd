use Rattle.std.proofs.Common.{◌≡◌, ◌≤◌, ◌++◌, ℕ, All, Some, length, drop, vec_capacity}
use Rattle.std.specs.Prelude.{map, slice_get}
use Rattle.mp_threads_member.specs.Members.{HasDoneNothing, MemberState}
use Rattle.mp_threads_crew.specs.Crews.{posts_of, seats_of}
use Rattle.mp_threads_crew.proofs.crew.new_members.Given as goal

abbrev pub invariant-loop-number : goal.invariant-loop-number
invariant-loop-number g l = record {
  room : l.count ≤ vec_capacity l.members;
  many : length l.members.items ≡ l._number;
  numbers : (k : ℕ) (m : MemberState) → slice_get l.members.items k ≡ Some m → m.worker.number ≡ k;
  new : All HasDoneNothing l.members.items;
  workers : l.workers.items ≡ drop l._number l.fn.workers.items;
  hubs : l.hubs.items ≡ drop l._number l.fn.hubs.items;
  posts : l.posts.items ≡ drop l._number l.fn.posts.items;
  seats_are : seats_of l.members.items ++ l.hubs.items ≡ l.fn.hubs.items;
  workers_are : map (λ (m : MemberState). m.worker) l.members.items ++ l.workers.items ≡ l.fn.workers.items;
  posts_are : posts_of l.members.items ++ l.posts.items ≡ l.fn.posts.items;
}
