use Rattle.std.proofs.Common.{◌∙◌, ap, drop, inr, arith}
use Rattle.mp_ordered.proofs.Rows.{all_gone, one_behind}
use Rattle.mp_ordered.proofs.block.have_first.Goals as goal

pub returns-in_ok-with_capacity-clause-same : goal.returns-in_ok-with_capacity-clause-same
returns-in_ok-with_capacity-clause-same g c =
    let bs = c.args.blocks.now.items in
    let n = c.args.gone in
    let b = c.in_ok-with_capacity.field-0 in
    let end = c.args.blocks.now.ok.0 in
    inr (all_gone bs n (omega (arith, end, c.len.ensures, c.if-len-gone.true)), (b, ((c.in_ok-with_capacity.ensures.items, omega (arith, c.in_ok-with_capacity.ensures.capacity)), ap (λ v. drop n v) c.push_reserved.ensures.items ∙ one_behind bs n b (omega (arith, end, c.len.ensures, c.if-len-gone.true)))))
