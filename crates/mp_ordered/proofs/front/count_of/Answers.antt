use Rattle.std.proofs.Common.{◌+◌, ap, arith, length, length-append, take}
use Rattle.mp_ordered.specs.Blocks.{items_of}
use Rattle.mp_ordered.proofs.Fronts.{front_within, items_next}
use Rattle.mp_ordered.proofs.front.count_of.Goals as goal

pub overflow_add-count : goal.overflow_add-count
overflow_add-count g c =
    let bs = c.args.blocks.now in
    let i = c.loop-block.block-index in
    let b = c.block-item.result in
    let next = ap length (items_next bs i b c.loop-block-test.true) in
    omega (arith, c.loop-block.invariant, next, length-append (items_of (take i bs)), ap (λ v. length v.items) c.block-item.is, front_within bs (i + 1), c.requires, c.len-count.ensures)
