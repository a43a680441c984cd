use Rattle.std.proofs.Common.{◌≡◌, ◌≤◌, ◌^◌, ◌-◌, ◌++◌, ◌∷◌, ℕ, IsPermutation, List, ap, filter, length, map, not, sym, subst, ◌∙◌, arith}
use Rattle.std.proofs.lemmas.Bool.{not_from_false}
use Rattle.std.proofs.lemmas.List.{length-map}
use Rattle.std.proofs.lemmas.Map.Iter.{iter_end, iter_turn, rest_more, rest_so_far}
use Rattle.std.specs.Map.Iter.{deref}
use Rattle.std.specs.Vec.{vec_capacity}
use Rattle.mp_host_states.specs.Numbers.{numbers_of, with_one}
use Rattle.mp_host.specs.Waiting.{waits_beside}
use Rattle.mp_host.proofs.Kept.{not_refused}
use Rattle.mp_host.proofs.Tallied.{numbers_are, numbers_below, numbers_by_time, room_for_one, told_in_order}
use Rattle.mp_host.proofs.host.Host.count_waiting.Goals as goal

pub add_one-requires-clause-few : goal.add_one-requires-clause-few
add_one-requires-clause-few g c =
    let p = λ (w : ℕ × ℕ). not (waits_beside c.args.self.now c.args.from c.args.to w.0 w.1) in
    let here = iter_turn deref c.iter-wake-items.result _ _ _ _ _ c.into_iter-wake-iterator.ensures.into_iter_gives c.loop-wake.yielded_by _ c.in-Some.is c.next.ensures.steps in
    let so_far = length-map c.loop-wake.yielded deref in
    rw c.loop-wake.invariant.counted (numbers_below p (map deref c.loop-wake.yielded) (2 ^ 64 - 1) (omega (arith, here.0, so_far, c.iter-wake-items.ensures.fits)))

pub add_one-requires-clause-by_time : goal.add_one-requires-clause-by_time
add_one-requires-clause-by_time g c =
    let p = λ (w : ℕ × ℕ). not (waits_beside c.args.self.now c.args.from c.args.to w.0 w.1) in
    rw c.loop-wake.invariant.counted (numbers_by_time (filter p (map deref c.loop-wake.yielded)))

pub returns-in_err-add_one-clause-never_refused_with_room : goal.returns-in_err-add_one-clause-never_refused_with_room
returns-in_err-add_one-clause-never_refused_with_room g c = λ room.
    let p = λ (w : ℕ × ℕ). not (waits_beside c.args.self.now c.args.from c.args.to w.0 w.1) in
    let ws = map deref c.loop-wake.yielded in
    let w = c.in-Some.wake.now in
    let left = rest_more deref _ _ _ _ c.in-Some.is c.next.ensures.steps in
    let parts : c.iter-wake-items.result ≡ ws ++ w ∷ c.next.new.self = sym c.into_iter-wake-iterator.ensures.into_iter_gives ∙ (rest_so_far deref _ _ _ c.loop-wake.yielded_by ∙ ap (λ (vs : List (ℕ × ℕ)). ws ++ vs) left) in
    let one = room_for_one p c.args.wakes.now.wakes ws c.next.new.self w (subst (IsPermutation c.args.wakes.now.wakes) parts c.iter-wake-items.ensures.wakes) (not_from_false (waits_beside c.args.self.now c.args.from c.args.to w.0 w.1) (sym c.waits_beside.ensures ∙ c.if-not-waits_beside.true)) in
    let counted = ap (λ (ns : List (ℕ × ℕ)). length (with_one ns w.0)) c.loop-wake.invariant.counted in
    let fits : length (with_one c.loop-wake.numbers.items w.0) ≤ vec_capacity c.loop-wake.numbers = omega (arith, counted, one, room, c.loop-wake.invariant.room) in
    absurd (not_refused c.add_one.result c.in_err-add_one.field-0.0 c.in_err-add_one.was (c.add_one.ensures.never_refused_with_room fits))

pub returns-clause-told : goal.returns-clause-told
returns-clause-told g c =
    let p = λ (w : ℕ × ℕ). not (waits_beside c.args.self.now c.args.from c.args.to w.0 w.1) in
    let ws = c.iter-wake-items.result in
    let all = iter_end deref ws _ _ _ _ _ c.into_iter-wake-iterator.ensures.into_iter_gives c.loop-wake.yielded_by c.in-None.is c.next.ensures.steps in
    let counted = c.loop-wake.invariant.counted ∙ ap (λ (vs : List (ℕ × ℕ)). numbers_of (filter p vs)) all.0 in
    rw counted (told_in_order p c.args.wakes.now.wakes ws (numbers_of (filter p ws)) c.iter-wake-items.ensures.wakes (numbers_are (filter p ws)))

pub returns-clause-few : goal.returns-clause-few
returns-clause-few g c =
    let p = λ (w : ℕ × ℕ). not (waits_beside c.args.self.now c.args.from c.args.to w.0 w.1) in
    let ws = c.iter-wake-items.result in
    let all = iter_end deref ws _ _ _ _ _ c.into_iter-wake-iterator.ensures.into_iter_gives c.loop-wake.yielded_by c.in-None.is c.next.ensures.steps in
    rw (c.loop-wake.invariant.counted ∙ ap (λ (vs : List (ℕ × ℕ)). numbers_of (filter p vs)) all.0) (numbers_below p ws (2 ^ 63) c.iter-wake-items.ensures.fits)
