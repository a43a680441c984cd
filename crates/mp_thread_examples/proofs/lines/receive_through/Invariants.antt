use Rattle.std.proofs.Common.{◌≡◌, ◌≤◌, length, vec_capacity}
use Rattle.mp_thread_examples.specs.Numbers.{values_of}
use Rattle.mp_thread_examples.proofs.lines.receive_through.Given as goal

abbrev pub invariant-loop : goal.invariant-loop
invariant-loop g l = record {
  room : l.count ≤ vec_capacity l.got;
  few : length l.got.items ≤ l.count;
  queue : l.receiver.queue ≡ l.fn.receiver.queue;
  got : values_of l.receiver.got ≡ l.got.items;
}
