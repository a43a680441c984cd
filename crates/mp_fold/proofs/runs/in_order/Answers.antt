-- The sort is stable, by key and time.
use Rattle.std.proofs.Common.{rules}
use Rattle.mp_fold.proofs.Sorting.{sorted_by_place}
use Rattle.mp_fold.proofs.runs.in_order.Goals as goal

pub returns : goal.returns
returns c =
    sorted_by_place c.args.recs.items c.sort_by_key.new.self.items c.sort_by_key.ensures.permutation c.in_ok-sort_by_key.ensures.sorted c.sort_by_key.ensures.stable (λ a r q k. search rules)
