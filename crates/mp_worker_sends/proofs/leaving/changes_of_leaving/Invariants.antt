-- The changes so far.
use Rattle.std.proofs.Common.{◌≡◌, take}
use Rattle.mp_rows_laws.specs.Changes.{packet_sent_at}
use Rattle.mp_worker_sends.proofs.leaving.changes_of_leaving.Given as goal

abbrev pub invariant-loop-at : goal.invariant-loop-at
invariant-loop-at l = l.changes.items ≡ packet_sent_at l.stage l.time (take l.at-index l.numbers)
