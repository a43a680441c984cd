use Rattle.std.proofs.Common.{◌≡◌, ◌≤◌, length, take}
use Rattle.mp_q_window.specs.Recent.{since}
use Rattle.mp_q_window.proofs.recent.Recent.count_since.Given as goal

abbrev pub invariant-loop-time : goal.invariant-loop-time
invariant-loop-time l = record {
  count : l.count ≡ length (since l.first (take l.time-index l.time-items));
  bound : l.count ≤ l.time-index;
}
