use Rattle.std.proofs.Common.{◌<◌, ℕ, List}
use Rattle.mp_thread_examples.proofs.numbers.receive_all.Given as goal

abbrev pub invariant-loop : goal.invariant-loop
invariant-loop g l = record {
  serves : g.P.Post.serves l.post 1 × (1 < g.P.Post.workers l.post);
  denotes : (pushed : List ℕ) → g.P.Post.denotes l.fn.post 0 1 pushed l.fn.got.items → g.P.Post.denotes l.post 0 1 pushed l.got.items;
}
