use Rattle.std.proofs.Common.{drop, ◌≡◌, ◌∙◌, ◌+◌, sym, ap, subst, length, take, arith, Some}
use Rattle.std.specs.Option.{IfNone, IfSome}
use Rattle.std.specs.List.{prefix_len}
use Rattle.std.specs.List.Sorted.{IsPartitionedBy}
use Rattle.std.specs.Prelude.{slice_get}
use Rattle.std.proofs.lemmas.List.{get_or_default}
use Rattle.std.proofs.lemmas.List.Sums.{prefix_len-le-length}
use Rattle.mp_ordered.specs.Blocks.{items_of}
use Rattle.mp_ordered.proofs.Blocked.{in_front_of, parted_block}
use Rattle.mp_ordered.proofs.blocks.OrderedBlocks.first_behind.Goals as goal

pub cut_in-requires : goal.cut_in-requires
cut_in-requires g c =
    let p = g.C.Cut.front c.args.cut.now in
    let bs = drop c.self.inside.gone c.self.inside.blocks.items in
    let at = c.cut_block-at.result in
    let b = c.index-blocks-at.result in
    let here = rw c.used-blocks.ensures at c.cut_block-at.ensures.inside in
    let cut = rw c.used-blocks.ensures at c.cut_block-at.ensures.cut in
    let parted = rw (← c.self.view_is) at c.requires in
    subst (λ v. IsPartitionedBy p v.items) (sym (rw c.used-blocks.ensures at c.index-blocks-at.is)) (parted_block p bs at b parted here)

pub item_from-requires-clause-place : goal.item_from-requires-clause-place
item_from-requires-clause-place g c =
    let p = g.C.Cut.front c.args.cut.now in
    let bs = drop c.self.inside.gone c.self.inside.blocks.items in
    let at = c.cut_block-at.result in
    let b = c.index-blocks-at.result in
    let here = rw c.used-blocks.ensures at c.cut_block-at.ensures.inside in
    let cut = rw c.used-blocks.ensures at c.cut_block-at.ensures.cut in
    let parted = rw (← c.self.view_is) at c.requires in
    rw c.used-blocks.ensures
    (λ d. let same = ap (λ v. length v.items) ((rw c.used-blocks.ensures at c.index-blocks-at.is) ∙ get_or_default bs at b d here) in omega (arith, c.cut_in.ensures, prefix_len-le-length p b.items, same))

pub returns-clause-some : goal.returns-clause-some
returns-clause-some g c =
    let p = g.C.Cut.front c.args.cut.now in
    let bs = drop c.self.inside.gone c.self.inside.blocks.items in
    let at = c.cut_block-at.result in
    let b = c.index-blocks-at.result in
    let here = rw c.used-blocks.ensures at c.cut_block-at.ensures.inside in
    let cut = rw c.used-blocks.ensures at c.cut_block-at.ensures.cut in
    let parted = rw (← c.self.view_is) at c.requires in
    let count = in_front_of p bs at b parted c.self.invariant.1.filled here cut ∙ ap (λ n. length (items_of (take at bs)) + n) (sym (c.cut_in.ensures ∙ ap (λ v. prefix_len p v.items) (rw c.used-blocks.ensures at c.index-blocks-at.is))) in
    let found = rw c.used-blocks.ensures at c.item_from.ensures.some in
    rw (← c.self.view_is) (subst (λ n. IfSome c.item_from.result (λ x. slice_get (items_of bs) n ≡ Some x.now)) (sym count) found)

pub returns-clause-none : goal.returns-clause-none
returns-clause-none g c =
    let p = g.C.Cut.front c.args.cut.now in
    let bs = drop c.self.inside.gone c.self.inside.blocks.items in
    let at = c.cut_block-at.result in
    let b = c.index-blocks-at.result in
    let here = rw c.used-blocks.ensures at c.cut_block-at.ensures.inside in
    let cut = rw c.used-blocks.ensures at c.cut_block-at.ensures.cut in
    let parted = rw (← c.self.view_is) at c.requires in
    let count = in_front_of p bs at b parted c.self.invariant.1.filled here cut ∙ ap (λ n. length (items_of (take at bs)) + n) (sym (c.cut_in.ensures ∙ ap (λ v. prefix_len p v.items) (rw c.used-blocks.ensures at c.index-blocks-at.is))) in
    let past = rw c.used-blocks.ensures at c.item_from.ensures.none in
    rw (← c.self.view_is) (subst (λ n. IfNone c.item_from.result (length (items_of bs) ≡ n)) (sym count) past)
