use Rattle.std.proofs.Common.{◌≡◌, drop}
use Rattle.mp_q_window.specs.Recent.{are_times}
use Rattle.mp_q_window.proofs.recent.are_times.Given as goal

abbrev pub invariant-loop-time : goal.invariant-loop-time
invariant-loop-time l = are_times l.low l.until (drop l.time-index l.times) ≡ are_times 0 l.until l.times
