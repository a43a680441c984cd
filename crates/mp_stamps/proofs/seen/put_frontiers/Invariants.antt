-- The frontiers before the stage are found, and that of what its records come from.
use Rattle.std.proofs.Common.{◌≡◌, length}
use Rattle.mp_names.specs.Frontiers.{IsFrontierOf}
use Rattle.mp_stamps.specs.Counts.{count_in}
use Rattle.mp_stamps.specs.Flow.{origin_of}
use Rattle.mp_stamps.specs.Places.{places_of}
use Rattle.mp_stamps.proofs.Seeing.{AreFound, StandsFrom}
use Rattle.mp_stamps.proofs.seen.put_frontiers.Given as goal

abbrev pub invariant-loop-stage : goal.invariant-loop-stage
invariant-loop-stage l = AreFound l.counts l.frontiers (places_of l.stage) × IsFrontierOf (count_in l.counts) (origin_of l.stage) l.origin × (length l.frontiers ≡ 25) × StandsFrom l.fn.frontiers l.frontiers (places_of l.stage)
