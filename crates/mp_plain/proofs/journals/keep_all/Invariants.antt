use Rattle.std.proofs.Common.{◌≡◌}
use Rattle.mp_plain.specs.Journals.{keeping}
use Rattle.mp_plain.proofs.Passing.{changed_below}
use Rattle.mp_plain.proofs.journals.keep_all.Given as goal

abbrev pub invariant-loop-worker : goal.invariant-loop-worker
invariant-loop-worker g l = l.workers ≡ changed_below keeping l.worker-index l.initial.workers
