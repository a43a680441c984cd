use Rattle.std.proofs.Common.{◌∙◌, ℕ, List, ap, arith, drop, filter, length, sym}
use Rattle.std.proofs.lemmas.List.{length-map}
use Rattle.std.proofs.lemmas.Map.Iter.{iter_end, iter_turn}
use Rattle.std.specs.Map.Iter.{deref}
use Rattle.mp_host.specs.Waiting.{is_new}
use Rattle.mp_host.proofs.Tallied.{passing_alike}
use Rattle.mp_host.proofs.host.Host.count_new.Goals as goal

pub overflow_add-count : goal.overflow_add-count
overflow_add-count g c =
    let here = iter_turn deref c.iter-wake-items.result _ _ _ _ _ c.into_iter-wake-iterator.ensures.into_iter_gives c.loop-wake.yielded_by _ c.in-Some.is c.next.ensures.steps in
    omega (arith, here.0, c.loop-wake.invariant.few, c.iter-wake-items.ensures.fits)

pub returns : goal.returns
returns g c =
    let p = is_new c.args.time (drop c.args.next c.args.self.now.held) in
    let ws = c.iter-wake-items.result in
    let all = iter_end deref ws _ _ _ _ _ c.into_iter-wake-iterator.ensures.into_iter_gives c.loop-wake.yielded_by c.in-None.is c.next.ensures.steps in
    let counted = c.loop-wake.invariant.counted ∙ (ap (λ (vs : List (ℕ × ℕ)). length (filter p vs)) all.0 ∙ passing_alike p _ ws c.iter-wake-items.ensures.wakes) in
    rw (← c.one.view_is) (counted ∙ sym (length-map (filter p _) (λ (w : ℕ × ℕ). w.1)))
