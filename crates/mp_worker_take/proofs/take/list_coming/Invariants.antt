-- The changes so far, and room for those that are left.
use Rattle.std.proofs.Common.{◌≡◌, ◌≤◌, ◌+◌, ◌-◌, length, take, vec_len}
use Rattle.std.specs.Vec.{vec_capacity}
use Rattle.mp_rows_laws.specs.Changes.{packet_taken_at}
use Rattle.mp_worker_take.proofs.take.list_coming.Given as goal

abbrev pub invariant-loop-at : goal.invariant-loop-at
invariant-loop-at l = record {
  so_far : l.changes.items ≡ packet_taken_at l.stage l.time (take l.at-index l.numbers);
  roomy : vec_len l.changes + (length l.numbers - l.at-index) ≤ vec_capacity l.changes;
}
