use Rattle.std.proofs.Common.{drop, ◌≡◌, ◌∙◌, ◌+◌, sym, ap, subst, length, take, arith, Option, None, Some}
use Rattle.std.specs.Option.{IfNone, IfSome}
use Rattle.std.specs.List.{prefix_len}
use Rattle.std.specs.Prelude.{slice_get}
use Rattle.mp_names.specs.Names.{is_before}
use Rattle.mp_ordered.specs.Blocks.{items_of}
use Rattle.mp_ordered.specs.InOrder.{IsInOrder}
use Rattle.mp_ordered.proofs.Blocked.{first_at, in_front_of, order_of_block}
use Rattle.mp_ordered.proofs.Placed.{got_past}
use Rattle.mp_ordered.proofs.Placing.{partitioned}
use Rattle.mp_ordered.proofs.blocks.OrderedBlocks.first_from.Goals as goal

weaker : {X : Type 0} {P Q : Type 0} (o : Option X) → (P → Q) → IfNone o P → IfNone o Q
weaker None f h = f h
weaker (Some x) f h = h

pub place_in-requires : goal.place_in-requires
place_in-requires g c =
    let rank = g.O.Order.rank in
    let bs = drop c.self.inside.gone c.self.inside.blocks.items in
    let is = ap (λ b. b.items) (rw c.used-blocks.ensures at c.index-blocks-at.is) in
    subst (IsInOrder rank) (sym is) (order_of_block rank bs c.block_of-at.result c.index-blocks-at.result c.self.invariant.1.order (rw c.used-blocks.ensures at c.block_of-at.ensures.inside))

pub returns-clause-some : goal.returns-clause-some
returns-clause-some g c =
    let rank = g.O.Order.rank in
    let x = c.args.item.now in
    let bs = drop c.self.inside.gone c.self.inside.blocks.items in
    let at = c.block_of-at.result in
    let b = c.index-blocks-at.result in
    let here = rw c.used-blocks.ensures at c.block_of-at.ensures.inside in
    let place = rw c.used-blocks.ensures at c.block_of-at.ensures.place in
    let front = in_front_of (λ y. is_before (rank y) (rank x)) bs at b (partitioned rank x (items_of bs) c.self.invariant.1.order) c.self.invariant.1.filled here place in
    let count = front ∙ ap (λ n. length (items_of (take at bs)) + n) (sym (c.place_in.ensures.count ∙ ap (λ v. prefix_len (λ y. is_before (rank y) (rank x)) v.items) (rw c.used-blocks.ensures at c.index-blocks-at.is))) in
    let found = rw c.used-blocks.ensures at c.item_from.ensures.some in
    rw (← c.self.view_is)
    (subst (λ o. IfSome c.item_from.result (λ x. o ≡ Some x.now)) (ap (λ n. slice_get (items_of bs) n) (sym count) ∙ first_at rank x (items_of bs)) found)

pub returns-clause-none : goal.returns-clause-none
returns-clause-none g c =
    let rank = g.O.Order.rank in
    let x = c.args.item.now in
    let bs = drop c.self.inside.gone c.self.inside.blocks.items in
    let at = c.block_of-at.result in
    let b = c.index-blocks-at.result in
    let here = rw c.used-blocks.ensures at c.block_of-at.ensures.inside in
    let place = rw c.used-blocks.ensures at c.block_of-at.ensures.place in
    let front = in_front_of (λ y. is_before (rank y) (rank x)) bs at b (partitioned rank x (items_of bs) c.self.invariant.1.order) c.self.invariant.1.filled here place in
    let count = front ∙ ap (λ n. length (items_of (take at bs)) + n) (sym (c.place_in.ensures.count ∙ ap (λ v. prefix_len (λ y. is_before (rank y) (rank x)) v.items) (rw c.used-blocks.ensures at c.index-blocks-at.is))) in
    let past = rw c.used-blocks.ensures at c.item_from.ensures.none in
    rw (← c.self.view_is)
    (weaker c.item_from.result (λ e. sym (first_at rank x (items_of bs)) ∙ got_past (items_of bs) _ (omega (arith, e, count))) past)
