use Rattle.std.proofs.Common.{drop, ◌∙◌, ap, arith, subst, sym}
use Rattle.std.specs.List.{prefix_len}
use Rattle.std.specs.List.Sorted.{IsPartitionedBy}
use Rattle.std.proofs.lemmas.List.Sums.{prefix_len-le-length}
use Rattle.mp_ordered.specs.Blocks.{items_of}
use Rattle.mp_ordered.proofs.Blocked.{in_front_of, parted_block}
use Rattle.mp_ordered.proofs.Fronts.{front_within}
use Rattle.mp_ordered.proofs.blocks.OrderedBlocks.count_in_front.Goals as goal

pub count_of-requires : goal.count_of-requires
count_of-requires g c =
    let bs = drop c.self.inside.gone c.self.inside.blocks.items in
    let at = c.cut_block-at.result in
    rw c.used-blocks.ensures (omega (arith, front_within bs at, c.self.invariant.1.count, c.self.invariant.1.few))

pub cut_near-requires : goal.cut_near-requires
cut_near-requires g c =
    let p = g.C.Cut.front c.args.cut.now in
    let bs = drop c.self.inside.gone c.self.inside.blocks.items in
    let at = c.cut_block-at.result in
    let here = rw c.used-blocks.ensures at c.cut_block-at.ensures.inside in
    let parted = rw (← c.self.view_is) at c.requires in
    subst (λ v. IsPartitionedBy p v.items) (sym (rw c.used-blocks.ensures at c.index-blocks-at.is)) (parted_block p bs at c.index-blocks-at.result parted here)

pub overflow_add-result : goal.overflow_add-result
overflow_add-result g c =
    let p = g.C.Cut.front c.args.cut.now in
    let bs = drop c.self.inside.gone c.self.inside.blocks.items in
    let at = c.cut_block-at.result in
    let here = rw c.used-blocks.ensures at c.cut_block-at.ensures.inside in
    let cut = rw c.used-blocks.ensures at c.cut_block-at.ensures.cut in
    let parted = rw (← c.self.view_is) at c.requires in
    let total = in_front_of p bs at c.index-blocks-at.result parted c.self.invariant.1.filled here cut in
    let counted = rw c.used-blocks.ensures at c.count_of.ensures in
    let in_block = c.cut_near.ensures ∙ ap (λ v. prefix_len p v.items) (rw c.used-blocks.ensures at c.index-blocks-at.is) in
    omega (arith, total, counted, in_block, prefix_len-le-length p (items_of bs), c.self.invariant.1.count, c.self.invariant.1.few)

pub returns : goal.returns
returns g c =
    let p = g.C.Cut.front c.args.cut.now in
    let bs = drop c.self.inside.gone c.self.inside.blocks.items in
    let at = c.cut_block-at.result in
    let here = rw c.used-blocks.ensures at c.cut_block-at.ensures.inside in
    let cut = rw c.used-blocks.ensures at c.cut_block-at.ensures.cut in
    let parted = rw (← c.self.view_is) at c.requires in
    let total = in_front_of p bs at c.index-blocks-at.result parted c.self.invariant.1.filled here cut in
    let counted = rw c.used-blocks.ensures at c.count_of.ensures in
    let in_block = c.cut_near.ensures ∙ ap (λ v. prefix_len p v.items) (rw c.used-blocks.ensures at c.index-blocks-at.is) in
    rw (← c.self.view_is) (omega (arith, total, counted, in_block))
