use Rattle.std.proofs.Common.{◌≡◌, ◌+◌, ◌-◌, ◌≤◌, ◌++◌, length, take}
use Rattle.std.specs.Vec.{vec_capacity}
use Rattle.mp_q_window.specs.Recent.{times_of}
use Rattle.mp_q_window.proofs.recent.Recent.apply.Given as goal

abbrev pub invariant-loop-rec : goal.invariant-loop-rec
invariant-loop-rec l = record {
  times : l.self-inside.times.items ≡ l.initial.self-inside.times.items ++ times_of (take l.rec-index l.recs);
  room : length l.self-inside.times.items + (length l.recs - l.rec-index) ≤ vec_capacity l.self-inside.times;
}
