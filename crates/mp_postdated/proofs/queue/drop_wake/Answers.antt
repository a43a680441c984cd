-- What is live stays queued where the wake, which isn't, goes.
use Rattle.std.proofs.Common.{IfSome, Contains, subst, sym}
use Rattle.std.specs.BinaryHeap.{heap_items}
use Rattle.mp_postdated.proofs.Queued.{still_queued}
use Rattle.mp_postdated.proofs.queue.drop_wake.Goals as goal

pub drop_taken-requires-clause-all : goal.drop_taken-requires-clause-all
drop_taken-requires-clause-all c =
    let live = c.args.live.now.keys in
    let first = c.begins_with.ensures.first.0 c.if-begins_with.true in
    let taken = subst (λ o. IfSome o (λ p. Contains live p.0 → ⊥)) (sym first) c.requires.gone in
    let some = c.pop.ensures.variant.1 c.if-begins_with.ensures.some in
    still_queued live (heap_items c.args.queue.now) (heap_items c.pop.new.self) c.pop.result some c.pop.ensures.top c.pop.ensures.permutation taken c.requires.all
