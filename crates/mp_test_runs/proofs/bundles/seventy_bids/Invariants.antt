-- The events so far are legal.
use Rattle.std.proofs.Common.{◌≡◌, All, length}
use Rattle.mp_model.specs.Legal.{EventIsLegal}
use Rattle.mp_test_runs.proofs.bundles.seventy_bids.Given as goal

abbrev pub invariant-loop-bid : goal.invariant-loop-bid
invariant-loop-bid l = record { each : All EventIsLegal l.events.items; count : length l.events.items ≡ l._bid }
