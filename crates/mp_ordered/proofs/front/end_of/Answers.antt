use Rattle.std.proofs.Common.{◌∙◌, ◌-◌, ap, arith, length}
use Rattle.std.proofs.lemmas.List.{take_all}
use Rattle.mp_ordered.specs.Blocks.{items_of}
use Rattle.mp_ordered.proofs.Blocked.{no_more}
use Rattle.mp_ordered.proofs.front.end_of.Goals as goal

pub returns-clause-count : goal.returns-clause-count
returns-clause-count g c =
    let bs = c.args.blocks.now in
    let d = c.index-blocks-last.result in
    let all = ap (λ vs. length (items_of vs)) (take_all c.loop-at.at bs c.loop-at-test.false) in
    let whole = no_more bs (length bs - 1) c.len-2.result d (omega (arith, c.requires.some)) (omega arith) (c.len-2.ensures ∙ d.ok.0 ∙ ap (λ v. length v.items) c.index-blocks-last.is) in
    omega (arith, c.loop-at.invariant, all, whole, c.requires.inside)
