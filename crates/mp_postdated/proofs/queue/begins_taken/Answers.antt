-- The search says whether the first is live.
use Rattle.std.proofs.Common.{arith}
use Rattle.std.specs.BinaryHeap.{heap_items}
use Rattle.mp_postdated.proofs.Queued.{begins_live, only_live}
use Rattle.mp_postdated.proofs.queue.begins_taken.Goals as goal

pub returns-in-Some-clause-live : goal.returns-in-Some-clause-live
returns-in-Some-clause-live c = begins_live c.args.live.now.keys (heap_items c.args.queue.now) c.in-Some.first.now c.contains.result c.in-Some.ensures.item.3.0 c.in-Some.ensures.lookup c.contains.ensures

pub returns-then-len-clause-live : goal.returns-then-len-clause-live
returns-then-len-clause-live c = only_live c.args.live.now.keys (heap_items c.args.queue.now) c.len-2.ensures.unique c.requires (omega (arith, c.args.queue.now.data.ok.0))
