use Rattle.std.proofs.Common.{List, of_calls, rules, subst}
use Rattle.std.specs.List.Sorted.{IsPermutation}
use Rattle.std.proofs.lemmas.Fn.{always_returns_same}
use Rattle.mp_tally.specs.declared.tally.Moved.{Moved}
use Rattle.mp_report.proofs.Searched.{sorted_in_order, triple_of}
use Rattle.mp_report.proofs.told.packets_told.Goals as goal

pub returns-clause-all : goal.returns-clause-all
returns-clause-all c = subst (λ (xs : List Moved). IsPermutation xs c.sort_unstable_by_key.new.self.items) c.in_ok-packets.ensures c.sort_unstable_by_key.ensures.permutation

pub returns-clause-in_order : goal.returns-clause-in_order
returns-clause-in_order c = sorted_in_order _ (c.sort_unstable_by_key.ensures.sorted triple_of (always_returns_same _ _ _ (λ a r f k. search (rules, of_calls))))
