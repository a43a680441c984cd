use Rattle.std.proofs.Common.{◌≡◌}
use Rattle.mp_thread_examples.proofs.lines.pop_told.Given as goal

abbrev pub invariant-loop : goal.invariant-loop
invariant-loop g l = record {
  same : l.sender ≡ l.fn.sender;
  told : l.receiver.sent ≡ l.fn.sender.sent;
}
