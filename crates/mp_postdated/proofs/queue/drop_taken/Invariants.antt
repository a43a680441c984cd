-- What is live is queued all along.
use Rattle.std.proofs.Common.{◌≡◌, ◌≤◌}
use Rattle.std.specs.BinaryHeap.{IsHeap, heap_capacity, heap_items, heap_len}
use Rattle.mp_postdated.specs.Wakes.{AreQueued, queue_cmp}
use Rattle.mp_postdated.proofs.queue.drop_taken.Given as goal

abbrev pub invariant-loop-queue : goal.invariant-loop-queue
invariant-loop-queue l = IsHeap queue_cmp (heap_items l.queue) × AreQueued l.live.keys (heap_items l.queue) × (heap_capacity l.queue ≡ heap_capacity l.initial.queue) × (heap_len l.queue ≤ heap_len l.initial.queue)

abbrev pub decreases-loop-queue : goal.decreases-loop-queue
decreases-loop-queue l = heap_len l.queue
