-- The queue begins with the least.
use Rattle.std.proofs.Common.{refl, sym}
use Rattle.std.specs.BinaryHeap.{heap_items}
use Rattle.mp_postdated.proofs.Ordered.{ordered-ascends}
use Rattle.mp_postdated.proofs.Queued.{first_is_least, least, none_live, there}
use Rattle.mp_postdated.specs.Wakes.{ordered}
use Rattle.mp_postdated.proofs.wakes.Wakes.least.Goals as goal

pub returns-in-Some-clause-first : goal.returns-in-Some-clause-first
returns-in-Some-clause-first c =
    let live = c.self.inside.live.keys in
    let queue = heap_items c.self.inside.queue in
    let first = c.in-Some.first.now in
    rw (← c.self.view_is)
    (sym
    (first_is_least (ordered live) first.0 (ordered-ascends live)
    (there live queue first c.self.invariant.first c.in-Some.ensures.item.3.0 c.in-Some.ensures.lookup)
    (least live queue first c.self.invariant.all (c.in-Some.ensures.greatest c.self.invariant.heap))))

pub returns-in-Some-clause-there : goal.returns-in-Some-clause-there
returns-in-Some-clause-there c =
    rw (← c.self.view_is)
    (there c.self.inside.live.keys (heap_items c.self.inside.queue) c.in-Some.first.now c.self.invariant.first c.in-Some.ensures.item.3.0 c.in-Some.ensures.lookup)

pub returns-in-Some-clause-least : goal.returns-in-Some-clause-least
returns-in-Some-clause-least c =
    rw (← c.self.view_is)
    (least c.self.inside.live.keys (heap_items c.self.inside.queue) c.in-Some.first.now c.self.invariant.all (c.in-Some.ensures.greatest c.self.invariant.heap))

pub returns-in-None-clause-first : goal.returns-in-None-clause-first
returns-in-None-clause-first c =
    rw (← c.self.view_is, none_live c.self.inside.live.keys (heap_items c.self.inside.queue) c.in-None.ensures.item.3 c.self.invariant.all) refl

pub returns-in-None-clause-none : goal.returns-in-None-clause-none
returns-in-None-clause-none c =
    rw (← c.self.view_is) (none_live c.self.inside.live.keys (heap_items c.self.inside.queue) c.in-None.ensures.item.3 c.self.invariant.all)
