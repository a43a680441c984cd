-- The control records so far fit.
use Rattle.std.proofs.Common.{◌≡◌, All, length}
use Rattle.mp_job.specs.Legal.{ControlFits}
use Rattle.mp_samples.specs.Jobs.{three_workers}
use Rattle.mp_samples.proofs.events.controls_at.Given as goal

abbrev pub invariant-loop-time : goal.invariant-loop-time
invariant-loop-time l = record { each : All (ControlFits three_workers) l.controls.items; count : length l.controls.items ≡ l.time-index }
