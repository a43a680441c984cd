-- The events so far are legal, and one for each bid so far.
use Rattle.std.proofs.Common.{◌≡◌, All, length}
use Rattle.mp_model.specs.Legal.{EventIsLegal}
use Rattle.mp_test_runs.proofs.worked.job_of.Given as goal

abbrev pub invariant-loop-time : goal.invariant-loop-time
invariant-loop-time l = record { each : All EventIsLegal l.events.items; count : length l.events.items ≡ l.time-index }
