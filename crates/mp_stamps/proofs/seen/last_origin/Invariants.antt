-- The frontier of what the stage's records come from is known.
use Rattle.mp_names.specs.Frontiers.{IsFrontierOf}
use Rattle.mp_stamps.specs.Counts.{count_in}
use Rattle.mp_stamps.specs.Flow.{origin_of}
use Rattle.mp_stamps.proofs.seen.last_origin.Given as goal

abbrev pub invariant-loop-stage : goal.invariant-loop-stage
invariant-loop-stage l = IsFrontierOf (count_in l.counts) (origin_of l.stage) l.last
