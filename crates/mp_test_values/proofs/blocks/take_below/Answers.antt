use Rattle.std.proofs.Common.{[], ◌∷◌}
use Rattle.mp_ordered.proofs.Placing.{partitioned}
use Rattle.mp_test_values.proofs.blocks.take_below.Goals as goal

pub last_in_front-requires : goal.last_in_front-requires
last_in_front-requires c = partitioned (λ n. n ∷ []) c.args.limit c.args.numbers.now.items c.first.ensures.in_order

pub take_last_in_front-requires-clause-parted : goal.take_last_in_front-requires-clause-parted
take_last_in_front-requires-clause-parted c = partitioned (λ n. n ∷ []) c.args.limit c.args.numbers.now.items c.first.ensures.in_order
