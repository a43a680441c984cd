-- The set has the same wakes again.
use Rattle.std.proofs.Common.{◌≡◌, ℕ, IsPermutation, List, subst, sym}
use Rattle.std.proofs.lemmas.Iterator.{items_from_collect}
use Rattle.std.proofs.lemmas.Iterator.Consumers.{YieldsList-at, YieldsList-from_copied, YieldsList-from_rest}
use Rattle.std.proofs.lemmas.Result.{IfOk-at_ok}
use Rattle.std.specs.BinaryHeap.{heap_items}
use Rattle.mp_postdated.proofs.Ordered.{AreSame, filled-same, ordered-same}
use Rattle.mp_postdated.proofs.Queued.{queue-same}
use Rattle.mp_postdated.proofs.wakes.Wakes.sort.Goals as goal

same : (c : goal.After-drop-wakes) → AreSame c.self.inside.live.keys c.fill.new.live.keys
same c =
    let old = c.self.inside.live.keys in
    let came = YieldsList-from_copied (YieldsList-at c.copied.ensures.source (YieldsList-from_rest old c.iter-2.ensures.rest)) in
    let items : c.in_ok-wakes.wakes.items ≡ old = IfOk-at_ok _ c.in_ok-wakes.was (items_from_collect c.collect.result c.collect.ensures.ran came) in
    let moved = subst (λ (ws : List (ℕ × ℕ)). IsPermutation ws c.sort_unstable.new.self.items) items c.sort_unstable.ensures.permutation in
    filled-same old c.deref.result.now c.fill.new.live.keys (subst (IsPermutation old) (sym c.deref.ensures.value) moved) c.fill.ensures.exact

pub invariant_of-self : goal.invariant_of-self
invariant_of-self c = queue-same c.self.inside.live.keys c.fill.new.live.keys (heap_items c.self.inside.queue) (same c) c.self.invariant

pub returns-clause-same : goal.returns-clause-same
returns-clause-same c = rw (← c.self.view_is) (ordered-same c.self.inside.live.keys c.fill.new.live.keys (same c))
