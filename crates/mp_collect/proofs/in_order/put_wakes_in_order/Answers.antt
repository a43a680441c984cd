use Rattle.std.proofs.Common.{of_calls, rules}
use Rattle.std.proofs.lemmas.Fn.{always_returns_same}
use Rattle.mp_collect.specs.Gathered.{place_of_wake}
use Rattle.mp_collect.proofs.in_order.put_wakes_in_order.Goals as goal

pub returns-clause-order : goal.returns-clause-order
returns-clause-order c = c.sort_unstable_by_key.ensures.sorted place_of_wake (always_returns_same _ _ _ (λ a r f k. search (rules, of_calls)))
