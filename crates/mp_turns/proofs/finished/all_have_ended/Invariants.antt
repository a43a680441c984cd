use Rattle.std.proofs.Common.{ℕ, ◌<◌}
use Rattle.mp_turns.specs.Done.{StageHasEnded}
use Rattle.mp_turns.proofs.finished.all_have_ended.Given as goal

abbrev pub invariant-loop-stage : goal.invariant-loop-stage
invariant-loop-stage l = (j : ℕ) → j < l.stage → StageHasEnded l.until j l.seen
