use Rattle.std.proofs.Common.{◌≡◌, ◌<◌, ◌+◌, ◌-◌, ◌∙◌, ap, length, subst, sym, take, arith, Some}
use Rattle.std.specs.Option.{IfSome}
use Rattle.std.specs.Prelude.{slice_get}
use Rattle.std.specs.List.{prefix_len}
use Rattle.std.specs.List.Sorted.{IsPartitionedBy}
use Rattle.std.proofs.lemmas.List.{get_or_default}
use Rattle.std.proofs.lemmas.List.Sums.{prefix_len-le-length}
use Rattle.mp_ordered.specs.Blocks.{items_of}
use Rattle.mp_ordered.proofs.Blocked.{in_front_of, parted_block}
use Rattle.mp_ordered.proofs.Nearest.{none_then, some_or}
use Rattle.mp_ordered.proofs.hinted.last_searched.Goals as goal

pub cut_in-count-requires : goal.cut_in-count-requires
cut_in-count-requires g c =
    let p = g.C.Cut.front c.args.cut.now in
    let b = c.index-blocks-block.result in
    subst (λ v. IsPartitionedBy p v.items) (sym c.index-blocks-block.is) (parted_block p c.args.blocks.now c.cut_block-block.result b c.requires.parted c.cut_block-block.ensures.inside)

pub item_from-requires-clause-place : goal.item_from-requires-clause-place
item_from-requires-clause-place g c =
    λ d.
    let p = g.C.Cut.front c.args.cut.now in
    let b = c.index-blocks-block.result in
    let same = ap (λ v. length v.items) (c.index-blocks-block.is ∙ get_or_default c.args.blocks.now c.cut_block-block.result b d c.cut_block-block.ensures.inside) in
    omega (arith, c.cut_in-count.ensures, prefix_len-le-length p b.items, same)

pub returns-clause-some : goal.returns-clause-some
returns-clause-some g c =
    let p = g.C.Cut.front c.args.cut.now in
    let bs = c.args.blocks.now in
    let at = c.cut_block-block.result in
    let count = in_front_of p bs at c.index-blocks-block.result c.requires.parted c.requires.filled c.cut_block-block.ensures.inside c.cut_block-block.ensures.cut in
    let here = c.cut_in-count.ensures ∙ ap (λ v. prefix_len p v.items) c.index-blocks-block.is in
    let last : prefix_len p (items_of bs) - 1 ≡ length (items_of (take at bs)) + (c.cut_in-count.result - 1) = omega (arith, count, here, c.if-count-eq0.false) in
    subst (λ n. IfSome c.item_from.result (λ x. slice_get (items_of bs) n ≡ Some x.now)) (sym last) c.item_from.ensures.some

pub returns-clause-some_in_front : goal.returns-clause-some_in_front
returns-clause-some_in_front g c =
    let p = g.C.Cut.front c.args.cut.now in
    let bs = c.args.blocks.now in
    let count = in_front_of p bs c.cut_block-block.result c.index-blocks-block.result c.requires.parted c.requires.filled c.cut_block-block.ensures.inside c.cut_block-block.ensures.cut in
    let here = c.cut_in-count.ensures ∙ ap (λ v. prefix_len p v.items) c.index-blocks-block.is in
    some_or c.item_from.result (0 < prefix_len p (items_of bs)) (omega (arith, count, here, c.if-count-eq0.false))

pub returns-clause-none : goal.returns-clause-none
returns-clause-none g c =
    let p = g.C.Cut.front c.args.cut.now in
    let bs = c.args.blocks.now in
    let count = in_front_of p bs c.cut_block-block.result c.index-blocks-block.result c.requires.parted c.requires.filled c.cut_block-block.ensures.inside c.cut_block-block.ensures.cut in
    let here = c.cut_in-count.ensures ∙ ap (λ v. prefix_len p v.items) c.index-blocks-block.is in
    none_then c.item_from.result _ _ (λ past. absurd (omega (arith, past, count, here, c.if-count-eq0.false, prefix_len-le-length p (items_of bs)))) c.item_from.ensures.none
