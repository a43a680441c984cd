-- The removal finds a wake just where it is there, and leaves the others.
use Rattle.std.proofs.Common.{◌≡◌}
use Rattle.std.specs.BinaryHeap.{heap_items}
use Rattle.mp_postdated.proofs.Membership.{has-without_wake}
use Rattle.mp_postdated.proofs.Ordered.{has_out, ordered-ascends, ordered_found, ordered_out}
use Rattle.mp_postdated.proofs.Queued.{begins_beside}
use Rattle.mp_postdated.specs.Wakes.{ordered, without_wake}
use Rattle.mp_postdated.proofs.wakes.Wakes.take_due.Goals as goal

pub drop_wake-requires-clause-all : goal.drop_wake-requires-clause-all
drop_wake-requires-clause-all c =
    λ w there. c.self.invariant.all w ((has_out c.args.time c.args.key c.self.inside.live.keys c.remove-was_there.new.self.keys c.remove-was_there.ensures.updates.0 w.0 w.1).0 there).0

pub drop_wake-requires-clause-first : goal.drop_wake-requires-clause-first
drop_wake-requires-clause-first c =
    begins_beside c.self.inside.live.keys c.remove-was_there.new.self.keys c.args.time c.args.key (heap_items c.self.inside.queue) c.remove-was_there.ensures.updates.0 c.self.invariant.first

pub returns-clause-there : goal.returns-clause-there
returns-clause-there c = rw (c.remove-was_there.ensures.test, ← c.self.view_is) (ordered_found c.self.inside.live.keys c.args.time c.args.key)

pub returns-clause-taken : goal.returns-clause-taken
returns-clause-taken c = rw (← c.self.view_is) (ordered_out c.args.time c.args.key c.self.inside.live.keys c.remove-was_there.new.self.keys c.remove-was_there.ensures.updates.0)

pub returns-clause-exact : goal.returns-clause-exact
returns-clause-exact c =
    let taken : ordered c.remove-was_there.new.self.keys ≡ without_wake (ordered c.self.inside.live.keys) c.args.time c.args.key = ordered_out c.args.time c.args.key c.self.inside.live.keys c.remove-was_there.new.self.keys c.remove-was_there.ensures.updates.0 in
    λ t k. rw (← c.self.view_is, taken) (has-without_wake (ordered c.self.inside.live.keys) c.args.time c.args.key t k)

pub returns-clause-ascending : goal.returns-clause-ascending
returns-clause-ascending c = ordered-ascends c.remove-was_there.new.self.keys
