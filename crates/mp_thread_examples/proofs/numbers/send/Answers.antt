use Rattle.std.proofs.Common.{suc}
use Rattle.mp_thread_examples.specs.Numbers.{numbers_below}
use Rattle.mp_thread_examples.proofs.Below.{distinct_below, one_more}
use Rattle.mp_thread_examples.proofs.numbers.send.Goals as goal

pub push-requires-clause-fresh : goal.push-requires-clause-fresh
push-requires-clause-fresh g c = (numbers_below c.args.number, c.requires.denotes.0, c.requires.denotes.1, distinct_below (suc c.args.number))

pub returns-in-Ok-clause-sent : goal.returns-in-Ok-clause-sent
returns-in-Ok-clause-sent g c popped h = rw one_more (c.in-Ok.ensures.ok (numbers_below c.args.number) popped h (distinct_below (suc c.args.number)))
