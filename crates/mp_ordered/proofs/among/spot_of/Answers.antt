use Rattle.std.proofs.Common.{◌≡◌, ◌-◌, ◌<◌, ◌∙◌, ap, length, subst, sym, arith}
use Rattle.std.specs.List.{insert}
use Rattle.std.proofs.lemmas.List.{get_or_default}
use Rattle.mp_names.specs.Names.{is_before}
use Rattle.mp_ordered.specs.InOrder.{IsInOrder, begins, put_in_order}
use Rattle.mp_ordered.proofs.Blocked.{begins_if_some, order_of_block}
use Rattle.mp_ordered.proofs.Halving.{put_at_count}
use Rattle.mp_ordered.proofs.among.spot_of.Goals as goal

pub ends_before-requires : goal.ends_before-requires
ends_before-requires g c =
    let b = c.index-blocks-last.result in
    subst (λ v. IsInOrder g.O.Order.rank v.items) (sym c.index-blocks-last.is) (order_of_block g.O.Order.rank c.args.blocks.now (length c.args.blocks.now - 1) b c.requires.order (omega (arith, c.requires.some)))

pub returns-then-ends_before : goal.returns-then-ends_before
returns-then-ends_before g c =
    let rank = g.O.Order.rank in
    let x = c.args.item.now in
    let bs = c.args.blocks.now in
    let last = length bs - 1 in
    let here : last < length bs = omega (arith, c.requires.some) in
    let ends = c.ends_before.ensures.0 c.if-ends_before.true in
    let b = c.index-blocks-last.result in
    let is = λ (d : _). c.index-blocks-last.is ∙ get_or_default bs last b d here in
    record {
      at = here;
      block = λ d. (λ l. ap (λ v. begins (λ y. is_before (rank y) (rank x)) v.items) (sym (is d)) ∙ begins_if_some (λ y. is_before (rank y) (rank x)) b.items (omega (arith, ends.0, ends.1)), λ l. absurd (omega arith));
      inside = λ d. omega (arith, c.len.ensures, b.ok.0, ap (λ v. length v.items) (is d));
      place = λ d. subst (λ v. insert v.items c.len.result x ≡ put_in_order rank x v.items) (is d) (ap (λ n. insert b.items n x) (c.len.ensures ∙ b.ok.0 ∙ sym ends.1) ∙ put_at_count rank x b.items);
    }

pub place_in-place-requires : goal.place_in-place-requires
place_in-place-requires g c =
    let b = c.index-blocks-block.result in
    subst (λ v. IsInOrder g.O.Order.rank v.items) (sym c.index-blocks-block.is) (order_of_block g.O.Order.rank c.args.blocks.now c.block_of-block.result b c.requires.order c.block_of-block.ensures.inside)
