use Rattle.std.proofs.Common.{◌∙◌, ap, arith}
use Rattle.std.specs.List.{insert}
use Rattle.std.proofs.lemmas.List.Sums.{prefix_len-le-length}
use Rattle.mp_names.specs.Names.{is_before}
use Rattle.mp_ordered.proofs.Halving.{put_at_count}
use Rattle.mp_ordered.proofs.Placing.{partitioned}
use Rattle.mp_ordered.proofs.block.place_in.Goals as goal

pub cut_in-requires : goal.cut_in-requires
cut_in-requires g c = partitioned g.O.Order.rank c.args.item.now c.args.block.now.items c.requires

pub returns-clause-inside : goal.returns-clause-inside
returns-clause-inside g c =
    omega (arith, c.cut_in.ensures, prefix_len-le-length (λ y. is_before (g.O.Order.rank y) (g.O.Order.rank c.args.item.now)) c.args.block.now.items)

pub returns-clause-place : goal.returns-clause-place
returns-clause-place g c =
    ap (λ n. insert c.args.block.now.items n c.args.item.now) c.cut_in.ensures ∙ put_at_count g.O.Order.rank c.args.item.now c.args.block.now.items
