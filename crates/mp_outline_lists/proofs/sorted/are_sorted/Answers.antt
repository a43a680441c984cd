-- Each name and the next are in order.
use Rattle.std.proofs.Common.{of_calls, rules}
use Rattle.std.specs.Ordering.{is_le}
use Rattle.std.proofs.lemmas.Fn.{always_returns_same}
use Rattle.mp_outline_lists.specs.Ranks.{rank_cmp, rank_of}
use Rattle.mp_outline_lists.proofs.InOrder.{sorted_by_rank}
use Rattle.mp_outline_lists.proofs.sorted.are_sorted.Goals as goal

pub returns : goal.returns
returns c =
    let each = c.is_sorted_by.ensures.cases (λ x y. is_le (rank_cmp (rank_of x) (rank_of y))) (always_returns_same _ _ _ (λ a r f k. search (rules, of_calls))) in
    sorted_by_rank c.args.names.now c.is_sorted_by.result each
