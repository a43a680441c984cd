use Rattle.std.proofs.Common.{◌≡◌, ◌≤◌}
use Rattle.mp_thread_examples.specs.Numbers.{numbers_below, values_of}
use Rattle.mp_thread_examples.proofs.lines.send_through.Given as goal

abbrev pub invariant-loop : goal.invariant-loop
invariant-loop g l = record {
  bound : l.next ≤ l.count;
  edge : (l.sender.from ≡ 0) × (l.sender.to ≡ 1);
  queue : l.sender.queue ≡ l.fn.sender.queue;
  sent : values_of l.sender.sent ≡ numbers_below l.next;
}
