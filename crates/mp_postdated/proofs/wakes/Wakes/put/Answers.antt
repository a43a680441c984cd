-- The set has one wake more, and so has the queue where it is new.
use Rattle.std.proofs.Common.{◌≡◌}
use Rattle.std.specs.BinaryHeap.{heap_items}
use Rattle.mp_postdated.proofs.Membership.{has-with_wake}
use Rattle.mp_postdated.proofs.Ordered.{ordered-ascends, ordered_in}
use Rattle.mp_postdated.proofs.Queued.{begins_pushed, more_queued}
use Rattle.mp_postdated.specs.Wakes.{ordered, with_wake}
use Rattle.mp_postdated.proofs.wakes.Wakes.put.Goals as goal

pub returns-then-not-is_new-clause-added : goal.returns-then-not-is_new-clause-added
returns-then-not-is_new-clause-added c = rw (← c.self.view_is) (ordered_in c.args.time c.args.key c.self.inside.live.keys c.insert.new.self.keys c.in-Ok.ensures.updates.0)

pub returns-then-not-is_new-clause-exact : goal.returns-then-not-is_new-clause-exact
returns-then-not-is_new-clause-exact c =
    let added : ordered c.insert.new.self.keys ≡ with_wake (ordered c.self.inside.live.keys) c.args.time c.args.key = ordered_in c.args.time c.args.key c.self.inside.live.keys c.insert.new.self.keys c.in-Ok.ensures.updates.0 in
    λ t k. rw (← c.self.view_is, added) (has-with_wake (ordered c.self.inside.live.keys) c.args.time c.args.key t k)

pub returns-then-not-is_new-clause-ascending : goal.returns-then-not-is_new-clause-ascending
returns-then-not-is_new-clause-ascending c = ordered-ascends c.insert.new.self.keys

pub invariant_of-self-2 : goal.invariant_of-self-2
invariant_of-self-2 c =
    let live = c.self.inside.live.keys in
    let more = c.insert.new.self.keys in
    let old = heap_items c.self.inside.queue in
    let new = heap_items c.push.new.self in
    let is = c.self.invariant in
    let e = c.in-Ok-push.ensures in
    let heap = e.heap_order is.heap in
    record {
      heap = heap;
      all = more_queued live more c.args.time c.args.key old new c.in-Ok.ensures.updates.0 e.permutation is.all;
      first = begins_pushed live more c.args.time c.args.key old new c.in-Ok.ensures.updates.0 e.permutation is.heap heap is.first;
    }

pub returns-clause-added : goal.returns-clause-added
returns-clause-added c = rw (← c.self.view_is) (ordered_in c.args.time c.args.key c.self.inside.live.keys c.insert.new.self.keys c.in-Ok.ensures.updates.0)

pub returns-clause-exact : goal.returns-clause-exact
returns-clause-exact c =
    let added : ordered c.insert.new.self.keys ≡ with_wake (ordered c.self.inside.live.keys) c.args.time c.args.key = ordered_in c.args.time c.args.key c.self.inside.live.keys c.insert.new.self.keys c.in-Ok.ensures.updates.0 in
    λ t k. rw (← c.self.view_is, added) (has-with_wake (ordered c.self.inside.live.keys) c.args.time c.args.key t k)

pub returns-clause-ascending : goal.returns-clause-ascending
returns-clause-ascending c = ordered-ascends c.insert.new.self.keys
