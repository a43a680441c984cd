use Rattle.std.proofs.Common.{◌≡◌, ◌∙◌, ◌++◌, [], ap, arith, drop, false, filter, length, not, refl, subst, sym, take}
use Rattle.std.proofs.Math.ListN.{take-append-drop}
use Rattle.std.proofs.lemmas.List.{length-take-le}
use Rattle.std.proofs.lemmas.List.Filters.{length-filter_both}
use Rattle.mp_names.specs.Names.{is_before}
use Rattle.mp_model.specs.declared.record.Rec.{Rec}
use Rattle.mp_ordered.specs.InOrder.{IsInOrder}
use Rattle.mp_route.specs.Along.{goes_to, going, staying}
use Rattle.mp_route.specs.Routed.{tag_rank}
use Rattle.mp_route.proofs.Counting.{all_pass, none_fails}
use Rattle.mp_route.proofs.Parted.{left_pairs}
use Rattle.mp_route.proofs.along.take_along.Goals as goal

pub returns-then-count-clause-taken : goal.returns-then-count-clause-taken
returns-then-count-clause-taken c =
    let p = goes_to c.args.owners.now c.args.along in
    let n = c.count_along-count.result.looked in
    let held = c.args.held.now.items in
    let front = take n held in
    let count = c.count_along-count.ensures.count in
    let len : length front ≡ n = omega (arith, length-take-le n held count.inside) in
    let all : length (filter p front) ≡ length front = omega (arith, count.chosen_is, c.if-count.true, len) in
    let gone : c.take_all.new.gone.items ≡ going c.args.owners.now c.args.along n held = c.take_all.ensures.gone ∙ sym (all_pass p front all) in
    let none : filter (λ r. not (p r)) front ≡ [] = none_fails p front all in
    let long : c.count_along-count.result.chosen ≡ length c.take_all.new.gone.items = count.chosen_is ∙ ap length (sym gone) in
    record {
      looked = n;
      count = rw (← long) count;
      gone_is = gone;
      left = c.take_all.ensures.held ∙ ap (λ xs. xs ++ drop n held) (sym none);
      room = omega (arith, c.take_all.ensures.room, ap length c.take_all.ensures.gone, len);
    }

pub overflow_sub-count : goal.overflow_sub-count
overflow_sub-count c =
    let p = goes_to c.args.owners.now c.args.along in
    let n = c.count_along-count.result.looked in
    let front = take n c.args.held.now.items in
    let count = c.count_along-count.ensures.count in
    omega (arith, length-filter_both p (λ r. not (p r)) (λ r. refl) front, length-take-le n c.args.held.now.items count.inside, count.chosen_is)

pub take_first-requires-clause-for_kept : goal.take_first-requires-clause-for_kept
take_first-requires-clause-for_kept c =
    let p = goes_to c.args.owners.now c.args.along in
    let n = c.count_along-count.result.looked in
    let front = take n c.args.held.now.items in
    let count = c.count_along-count.ensures.count in
    omega (arith, length-filter_both p (λ r. not (p r)) (λ r. refl) front, length-take-le n c.args.held.now.items count.inside, count.chosen_is, c.in_ok-kept.ensures.capacity)

pub put_back-requires-clause-order : goal.put_back-requires-clause-order
put_back-requires-clause-order c =
    let p = goes_to c.args.owners.now c.args.along in
    let n = c.count_along-count.result.looked in
    let held = c.args.held.now.items in
    let R : Rec → Rec → Type 0 = λ u v. is_before (tag_rank v) (tag_rank u) ≡ false in
    let order = left_pairs p R (take n held) (drop n held) (subst (IsInOrder tag_rank) (sym (take-append-drop n held)) c.count_along-count.ensures.in_order) in
    rw (c.take_first.ensures.kept, c.take_first.ensures.held) order

pub put_back-requires-clause-room : goal.put_back-requires-clause-room
put_back-requires-clause-room c =
    let p = goes_to c.args.owners.now c.args.along in
    let n = c.count_along-count.result.looked in
    let front = take n c.args.held.now.items in
    let count = c.count_along-count.ensures.count in
    omega (arith, length-filter_both p (λ r. not (p r)) (λ r. refl) front, length-take-le n c.args.held.now.items count.inside, ap length c.take_first.ensures.kept, c.take_first.ensures.room)

pub returns-clause-taken : goal.returns-clause-taken
returns-clause-taken c =
    let p = goes_to c.args.owners.now c.args.along in
    let n = c.count_along-count.result.looked in
    let held = c.args.held.now.items in
    let front = take n held in
    let count = c.count_along-count.ensures.count in
    let long : c.count_along-count.result.chosen ≡ length c.take_first.new.gone.items = count.chosen_is ∙ ap length (sym c.take_first.ensures.gone) in
    record {
      looked = n;
      count = rw (← long) count;
      gone_is = c.take_first.ensures.gone;
      left = c.put_back.ensures.held ∙ ap (λ xs. xs ++ c.take_first.new.held.items) c.take_first.ensures.kept ∙ ap (λ xs. staying c.args.owners.now c.args.along n held ++ xs) c.take_first.ensures.held;
      room = omega (arith, length-filter_both p (λ r. not (p r)) (λ r. refl) front, length-take-le n held count.inside, ap length c.take_first.ensures.kept, ap length c.take_first.ensures.gone, c.take_first.ensures.room, c.put_back.ensures.room);
    }
