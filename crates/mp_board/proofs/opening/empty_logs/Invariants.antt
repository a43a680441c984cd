-- So many empty logs are there.
use Rattle.std.proofs.Common.{◌≡◌, map, replicate}
use Rattle.mp_names.specs.Logs.{empty_log}
use Rattle.mp_board.proofs.opening.empty_logs.Given as goal

abbrev pub invariant-loop-worker : goal.invariant-loop-worker
invariant-loop-worker g l = map (λ s. s.value.log) l.logs.items ≡ replicate l.worker empty_log
