use Rattle.std.proofs.Common.{◌≡◌, ◌≤◌, ◌<◌, ℕ}
use Rattle.mp_mailbox.specs.Queues.{WasEmpty}
use Rattle.mp_plain.proofs.trying.first_waiting.Given as goal

abbrev pub invariant-loop-sender : goal.invariant-loop-sender
invariant-loop-sender g l = record {
  same : l.post ≡ l.fn.post;
  none : (v : ℕ) → l.from ≤ v → v < l.sender → WasEmpty l.fn.post v l.worker;
}
