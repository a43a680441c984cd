-- The wakes stay as they were.
use Rattle.std.specs.BinaryHeap.{heap_items}
use Rattle.mp_postdated.proofs.Ordered.{ordered-ascends, ordered-same, reordered-same}
use Rattle.mp_postdated.proofs.Queued.{queue-same}
use Rattle.mp_postdated.proofs.wakes.Wakes.make_room.Goals as goal

pub returns-in_err-reserve-clause-ascending : goal.returns-in_err-reserve-clause-ascending
returns-in_err-reserve-clause-ascending c = ordered-ascends c.reserve.new.self.keys

pub invariant_of-self-2 : goal.invariant_of-self-2
invariant_of-self-2 c =
    let old = c.self.inside.live.keys in
    let new = c.reserve.new.self.keys in
    rw c.reserve-2.ensures.items (queue-same old new (heap_items c.self.inside.queue) (reordered-same old new c.reserve.ensures.keys.0) c.self.invariant)

pub returns-clause-same : goal.returns-clause-same
returns-clause-same c =
    let old = c.self.inside.live.keys in
    let new = c.reserve.new.self.keys in
    rw (← c.self.view_is) (ordered-same old new (reordered-same old new c.reserve.ensures.keys.0))

pub returns-clause-ascending : goal.returns-clause-ascending
returns-clause-ascending c = ordered-ascends c.reserve.new.self.keys
