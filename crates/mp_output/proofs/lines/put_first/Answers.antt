use Rattle.std.proofs.Common.{◌∙◌, ◌≤◌, ◌++◌, ℕ, List, ap, arith, get_or, length, sym, take}
use Rattle.std.proofs.lemmas.Grind.{flat_map-append}
use Rattle.mp_model.specs.Answers.{line_of}
use Rattle.mp_model.specs.declared.record.Output.{Output}
use Rattle.mp_ordered.specs.Blocks.{items_of}
use Rattle.mp_ordered.proofs.Fronts.{items_upto}
use Rattle.mp_output.specs.Unwritten.{lines_of, place_of}
use Rattle.mp_output.proofs.lines.put_first.Goals as goal

pub returns-then-left-len : goal.returns-then-left-len
returns-then-left-len c =
    let bs = c.as_blocks-block-items.result.now in
    let i = c.loop-block.block-index in
    let left = c.loop-block.left in
    let b = c.block-item.result in
    let line : Output → List ℕ = λ r. line_of (place_of r, r.value) in
    let front = items_of (take i bs) in
    let inside : left ≤ length (get_or bs i b).items = omega (arith, c.if-left-len.true, c.len.ensures, b.ok.0, ap (λ v. length v.items) c.block-item.is) in
    let rows = sym (items_upto bs i left b c.loop-block-test.true inside) ∙ ap (λ n. take n (items_of bs)) c.loop-block.invariant.left ∙ ap (λ r. take c.args.count r) c.as_blocks-block-items.ensures.items in
    c.in_ok-put_lines.ensures
    ∙ ap (λ l. l ++ lines_of (take left b.items)) c.loop-block.invariant.lines
    ∙ ap (λ v. lines_of front ++ lines_of (take left v.items)) c.block-item.is
    ∙ sym (flat_map-append line front (take left (get_or bs i b).items))
    ∙ ap lines_of rows
