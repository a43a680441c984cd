-- What is live stays queued where the first, which isn't, goes.
use Rattle.std.proofs.Common.{◌≤◌, ◌∙◌, IsSome, arith}
use Rattle.std.specs.BinaryHeap.{heap_items, heap_len}
use Rattle.mp_postdated.proofs.Queued.{shorter, still_heap, still_queued}
use Rattle.mp_postdated.proofs.queue.drop_taken.Goals as goal

pub loop-queue-preserved : goal.loop-queue-preserved
loop-queue-preserved c =
    let live = c.args.live.now.keys in
    let old = heap_items c.loop-queue.queue in
    let new = heap_items c.pop.new.self in
    let some : IsSome c.pop.result = c.pop.ensures.variant.1 c.loop-queue-test.ensures.some in
    let less : heap_len c.pop.new.self ≤ heap_len c.loop-queue.queue = shorter live (heap_len c.pop.new.self) (heap_len c.loop-queue.queue) c.pop.result some c.pop.ensures.len in
    let bound : heap_len c.loop-queue.queue ≤ heap_len c.args.queue.now = c.loop-queue.invariant.3 in (
      still_heap live old new c.pop.result some c.pop.ensures.heap_order c.loop-queue.invariant.0,
      still_queued live old new c.pop.result some c.pop.ensures.top c.pop.ensures.permutation c.loop-queue-test.ensures.taken c.loop-queue.invariant.1,
      c.pop.ensures.capacity ∙ c.loop-queue.invariant.2,
      omega arith,
    )
