-- What is sorted and has no name twice is the list in order.
use Rattle.std.proofs.Common.{of_calls, rules, subst}
use Rattle.std.specs.List.Sorted.{IsSortedByKey}
use Rattle.std.proofs.lemmas.Fn.{always_returns_same}
use Rattle.std.proofs.lemmas.List.Sorted.{IsPermutation-refl}
use Rattle.mp_outline_lists.specs.Ranks.{rank_cmp, rank_of}
use Rattle.mp_outline_lists.proofs.InOrder as order
use Rattle.mp_outline_lists.proofs.sorted.put_in_order.Goals as goal

pub returns-then-are_sorted : goal.returns-then-are_sorted
returns-then-are_sorted c =
    let names = c.args.names.now.items in
    let up = subst (IsSortedByKey rank_of rank_cmp) c.deref.ensures.value (c.are_sorted.ensures c.if-are_sorted.true) in
    order.put_in_order names names c.dedup.new.self.items (IsPermutation-refl names) up c.dedup.ensures.filtered

pub returns : goal.returns
returns c =
    let up = c.sort_unstable_by_key.ensures.sorted rank_of (always_returns_same _ _ _ (λ a r f k. search (rules, of_calls))) in
    order.put_in_order c.args.names.now.items c.sort_unstable_by_key.new.self.items c.dedup-2.new.self.items c.sort_unstable_by_key.ensures.permutation up c.dedup-2.ensures.filtered
