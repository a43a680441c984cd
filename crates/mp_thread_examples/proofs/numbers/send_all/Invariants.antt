use Rattle.std.proofs.Common.{◌<◌, ◌≤◌, ℕ, List, []}
use Rattle.mp_thread_examples.specs.Numbers.{numbers_below}
use Rattle.mp_thread_examples.proofs.numbers.send_all.Given as goal

abbrev pub invariant-loop : goal.invariant-loop
invariant-loop g l = record {
  bound : l.next ≤ l.count;
  serves : g.P.Post.serves l.post 0 × (1 < g.P.Post.workers l.post);
  denotes : (popped : List ℕ) → g.P.Post.denotes l.fn.post 0 1 [] popped → g.P.Post.denotes l.post 0 1 (numbers_below l.next) popped;
}
