use Rattle.std.proofs.Common.{[], ◌∷◌, arith}
use Rattle.std.proofs.lemmas.List.Sums.{prefix_len-le-length}
use Rattle.mp_names.specs.Names.{is_before}
use Rattle.mp_ordered.proofs.Placing.{partitioned}
use Rattle.mp_test_values.proofs.blocks.drop_below.Goals as goal

pub count_in_front-count-requires : goal.count_in_front-count-requires
count_in_front-count-requires c = partitioned (λ n. n ∷ []) c.args.limit c.args.numbers.now.items c.first.ensures.in_order

pub drop_first-requires : goal.drop_first-requires
drop_first-requires c = omega (arith, c.count_in_front-count.ensures, prefix_len-le-length (λ n. is_before (n ∷ []) (c.args.limit ∷ [])) c.args.numbers.now.items)
