use Rattle.std.proofs.Common.{◌≡◌, ◌∙◌, ◌<◌, suc, ap, sym, length, get_or, arith, add-one}
use Rattle.std.specs.Prelude.{slice_get}
use Rattle.std.proofs.lemmas.List.{get_or_default}
use Rattle.mp_ordered.proofs.Blocked.{item_of_block, item_of_next, later_filled, no_more}
use Rattle.mp_ordered.proofs.Placed.{got}
use Rattle.mp_ordered.proofs.block.item_from.Goals as goal

pub returns-then-place-len-clause-some : goal.returns-then-place-len-clause-some
returns-then-place-len-clause-some g c =
    let bs = c.args.blocks.now in
    let at = c.args.at in
    let b = c.index-blocks-at.result in
    let e = c.index-blocks-at-then-place-len.result in
    let same : length b.items ≡ length (get_or bs at e).items = ap (λ v. length v.items) (c.index-blocks-at.is ∙ get_or_default bs at b e c.requires.at) in
    let here : length e.items ≡ length (get_or bs at e).items = ap (λ v. length v.items) c.index-blocks-at-then-place-len.is in
    let low : c.args.place < length (get_or bs at e).items = omega (arith, c.if-place-len.true, c.len.ensures, b.ok.0, same) in
    item_of_block bs at c.args.place e c.requires.at low
    ∙ ap (λ v. slice_get v.items c.args.place) (sym c.index-blocks-at-then-place-len.is)
    ∙ got e.items c.args.place c.index.result.now (omega (arith, low, here)) c.index.ensures

pub returns-then-at-blocks-clause-some : goal.returns-then-at-blocks-clause-some
returns-then-at-blocks-clause-some g c =
    let bs = c.args.blocks.now in
    let at = c.args.at in
    let b = c.index-blocks-at.result in
    let n = c.index-blocks-at-then-at-blocks.result in
    let more : suc at < length bs = omega (arith, c.if-at-blocks.true) in
    let same : length b.items ≡ length (get_or bs at n).items = ap (λ v. length v.items) (c.index-blocks-at.is ∙ get_or_default bs at b n c.requires.at) in
    let place_is : c.args.place ≡ length (get_or bs at n).items = omega (arith, c.if-place-len.false, c.len.ensures, b.ok.0, same, c.requires.place n) in
    let next : n ≡ get_or bs (suc at) n = c.index-blocks-at-then-at-blocks.is ∙ ap (λ k. get_or bs k n) (add-one at) in
    let here : length n.items ≡ length (get_or bs (suc at) n).items = ap (λ v. length v.items) next in
    item_of_next bs at c.args.place n c.requires.filled more place_is
    ∙ ap (λ v. slice_get v.items 0) (sym next)
    ∙ got n.items 0 c.index-then-at-blocks.result.now (omega (arith, here, later_filled bs at n c.requires.filled more)) c.index-then-at-blocks.ensures

pub returns-clause-none : goal.returns-clause-none
returns-clause-none g c =
    let bs = c.args.blocks.now in
    let at = c.args.at in
    let b = c.index-blocks-at.result in
    let same : length b.items ≡ length (get_or bs at b).items = ap (λ v. length v.items) c.index-blocks-at.is in
    let place_is : c.args.place ≡ length (get_or bs at b).items = omega (arith, c.if-place-len.false, c.len.ensures, b.ok.0, same, c.requires.place b) in
    no_more bs at c.args.place b c.requires.at (omega (arith, c.if-at-blocks.false)) place_is
