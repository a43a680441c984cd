use Rattle.std.proofs.Common.{of_calls, rules}
use Rattle.std.proofs.lemmas.Fn.{always_returns_same}
use Rattle.std.proofs.lemmas.List.Sorted.{IsNonDecreasingBy-from_sort_by_key}
use Rattle.mp_step_lists.proofs.Sorting.{stays_at, time_of_entry}
use Rattle.mp_step_lists.proofs.controls.sort_by_time.Goals as goal

pub returns-clause-rising : goal.returns-clause-rising
returns-clause-rising c = IsNonDecreasingBy-from_sort_by_key time_of_entry _ c.in_ok-sort_by_key.ensures.sorted (λ a r q k. search (rules, of_calls))

pub returns-clause-stable : goal.returns-clause-stable
returns-clause-stable c = stays_at _ _ (c.sort_by_key.ensures.stable time_of_entry (always_returns_same _ _ _ (λ a r f k. search (rules, of_calls))))
