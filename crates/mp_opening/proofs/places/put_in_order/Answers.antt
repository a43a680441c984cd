use Rattle.std.proofs.Common.{of_calls, rules}
use Rattle.std.proofs.lemmas.Fn.{always_returns_same}
use Rattle.mp_opening.specs.ByBin.{rank_of_place}
use Rattle.mp_opening.proofs.places.put_in_order.Goals as goal

pub returns-clause-order : goal.returns-clause-order
returns-clause-order c = c.sort_unstable_by_key.ensures.sorted rank_of_place (always_returns_same _ _ _ (λ a r f k. search (rules, of_calls)))
