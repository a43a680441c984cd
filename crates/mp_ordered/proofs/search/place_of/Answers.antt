use Rattle.std.proofs.Common.{◌∙◌, ap, arith}
use Rattle.std.specs.List.{insert, slice_get}
use Rattle.std.proofs.lemmas.List.Sums.{prefix_len-le-length}
use Rattle.mp_names.specs.Names.{is_before}
use Rattle.mp_ordered.proofs.Blocked.{first_at}
use Rattle.mp_ordered.proofs.Halving.{put_at_count}
use Rattle.mp_ordered.proofs.Placing.{partitioned}
use Rattle.mp_ordered.proofs.search.place_of.Goals as goal

pub cut_in_slice-requires : goal.cut_in_slice-requires
cut_in_slice-requires g c = partitioned g.O.Order.rank c.args.item.now c.args.items.now c.requires

pub returns-clause-inside : goal.returns-clause-inside
returns-clause-inside g c =
    let most = prefix_len-le-length (λ y. is_before (g.O.Order.rank y) (g.O.Order.rank c.args.item.now)) c.args.items.now in
    omega (arith, c.cut_in_slice.ensures, most)

pub returns-clause-place : goal.returns-clause-place
returns-clause-place g c =
    ap (λ n. insert c.args.items.now n c.args.item.now) c.cut_in_slice.ensures ∙ put_at_count g.O.Order.rank c.args.item.now c.args.items.now

pub returns-clause-from : goal.returns-clause-from
returns-clause-from g c =
    ap (λ n. slice_get c.args.items.now n) c.cut_in_slice.ensures ∙ first_at g.O.Order.rank c.args.item.now c.args.items.now
