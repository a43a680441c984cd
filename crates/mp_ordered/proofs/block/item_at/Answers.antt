use Rattle.std.proofs.Common.{◌≡◌, ◌≤◌, ◌<◌, ◌-◌, ◌+◌, ◌∙◌, ◌∷◌, ap, sym, arith, drop, length, length-append}
use Rattle.std.specs.Prelude.{slice_get}
use Rattle.std.proofs.lemmas.List.{drop_more}
use Rattle.mp_ordered.specs.Blocks.{items_of}
use Rattle.mp_ordered.proofs.Blocked.{in_first, past_first}
use Rattle.mp_ordered.proofs.block.item_at.Goals as goal

pub returns-then-left-len-clause-some : goal.returns-then-left-len-clause-some
returns-then-left-len-clause-some g c =
    let bs = c.args.blocks.now in
    let i = c.loop-block.block-index in
    let b = c.block-item.result in
    let here = drop_more bs i b c.loop-block-test.true ∙ ap (λ v. v ∷ drop (i + 1) bs) (sym c.block-item.is) in
    let low : c.loop-block.left < length b.items = omega (arith, c.if-left-len.true, c.len.ensures) in
    c.loop-block.invariant.same ∙ ap (λ vs. slice_get (items_of vs) c.loop-block.left) here ∙ in_first b (drop (i + 1) bs) c.loop-block.left c.index.result.now low c.index.ensures

pub loop-block-preserved : goal.loop-block-preserved
loop-block-preserved g c =
    let bs = c.args.blocks.now in
    let i = c.loop-block.block-index in
    let b = c.block-item.result in
    let here = drop_more bs i b c.loop-block-test.true ∙ ap (λ v. v ∷ drop (i + 1) bs) (sym c.block-item.is) in
    let rest = items_of (drop (i + 1) bs) in
    let past : length b.items ≤ c.loop-block.left = omega (arith, c.if-left-len.false, c.len.ensures) in
    let same : length b.items ≡ c.len-left.result = omega (arith, c.len-left.ensures) in
    record {
      same = c.loop-block.invariant.same ∙ ap (λ vs. slice_get (items_of vs) c.loop-block.left) here ∙ past_first b.items rest c.loop-block.left past ∙ ap (λ n. slice_get rest (c.loop-block.left - n)) same;
      count = omega (arith, c.loop-block.invariant.count, ap (λ vs. length (items_of vs)) here, length-append b.items rest, past, same);
    }
