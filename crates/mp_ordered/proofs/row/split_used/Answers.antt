use Rattle.std.proofs.Common.{drop, subst}
use Rattle.mp_ordered.specs.Blocks.{IsSplit}
use Rattle.mp_ordered.proofs.Rows.{split_behind}
use Rattle.mp_ordered.proofs.row.split_used.Goals as goal

pub returns-clause-split : goal.returns-clause-split
returns-clause-split g c =
    let placed = c.make_place.new in
    let ends = c.split.new.blocks.items in
    subst (λ v. IsSplit c.args.at v (drop placed.gone ends)) c.make_place.ensures.blocks (split_behind placed.gone c.args.at placed.blocks.items ends c.make_place.ensures.gone c.split.ensures.split)
