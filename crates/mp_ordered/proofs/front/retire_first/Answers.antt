use Rattle.std.proofs.Common.{◌∙◌, ◌∷◌, [], All, ap, arith, drop, length, length-append, subst, sym}
use Rattle.std.proofs.lemmas.List.{drop-drop}
use Rattle.std.proofs.lemmas.List.Elements.{All-head, All-push, All-tail}
use Rattle.mp_ordered.specs.Blocks.{IsBlock, IsSpare, past_halves}
use Rattle.mp_ordered.proofs.front.retire_first.Goals as goal

pub loop-retired-preserved : goal.loop-retired-preserved
loop-retired-preserved g c =
    let inv = c.loop-retired.invariant in
    let block = c.take_front-block.result in
    let new = c.take_front-block.new in
    let rest = drop new.gone new.blocks.items in
    let taken = c.take_front-block.ensures.blocks in
    let low = subst (All IsBlock) taken inv.low in
    let head = All-head IsBlock block rest low in
    record {
      inside = c.take_front-block.ensures.inside;
      blocks = ap (λ v. drop 1 v) (sym taken ∙ inv.blocks) ∙ drop-drop 1 c.loop-retired._retired (drop c.args.gone.now c.args.blocks.now.items);
      low = All-tail IsBlock block rest low;
      empty = subst (All IsSpare) (sym c.push_reserved.ensures.items) (All-push IsSpare c.loop-retired.spare.items c.clear.new.self inv.empty (c.clear.ensures.items, omega (arith, head.1, c.clear.ensures.capacity)));
      more = omega (arith, inv.more, ap length c.push_reserved.ensures.items, length-append c.loop-retired.spare.items (c.clear.new.self ∷ []));
      past = omega (arith, inv.past, ap past_halves taken, c.past_half-left.ensures, c.len.ensures, block.ok.0);
      for_blocks = omega (arith, inv.for_blocks, c.take_front-block.ensures.memory);
      for_spare = omega (arith, inv.for_spare, c.push_reserved.ensures.capacity);
    }
