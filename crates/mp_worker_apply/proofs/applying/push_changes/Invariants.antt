-- The changes so far, and room for those that are left.
use Rattle.std.proofs.Common.{◌≡◌, ◌≤◌, ◌+◌, ◌-◌, ◌++◌, length, map, take, vec_len}
use Rattle.std.specs.Vec.{vec_capacity}
use Rattle.mp_names.specs.declared.locations.Loc.TheVariants.{Host}
use Rattle.mp_rows_laws.specs.Changes.{one_more}
use Rattle.mp_worker_apply.proofs.applying.push_changes.Given as goal

abbrev pub invariant-loop-time : goal.invariant-loop-time
invariant-loop-time l = record {
  so_far : l.changes.items ≡ l.initial.changes.items ++ map (one_more (Host l.stage)) (take l.time-index l.time-items);
  roomy : vec_len l.changes + (length l.time-items - l.time-index) ≤ vec_capacity l.changes;
}
