use Rattle.std.proofs.Common.{◌≡◌, [], ◌∷◌, Some, rules, inl, ap, sym, ◌∙◌, slice_get}
use Rattle.mp_seat.proofs.Sorting.{two_rows}
use Rattle.mp_thread_examples.proofs.counts.count_in_two.Goals as goal

pub close_two-requires-clause-numbers : goal.close_two-requires-clause-numbers
close_two-requires-clause-numbers g c = inl (c.join-first.ensures.first.1, c.join-first.ensures.second.1)

pub returns : goal.returns
returns g c =
    let closed = c.close_two.ensures in
    let first = c.join-first.ensures.first in
    let second = c.join-first.ensures.second in
    let left : slice_get c.close_two.result.0 0 ≡ Some 1000 = ap (slice_get c.close_two.result.0) (sym first.1) ∙ (closed.first ∙ first.2) in
    let right : slice_get c.close_two.result.0 1 ≡ Some 1000 = ap (slice_get c.close_two.result.0) (sym second.1) ∙ (closed.second ∙ second.2) in
    let numbers : c.close_two.result.0 ≡ 1000 ∷ 1000 ∷ [] = two_rows c.close_two.result.0 1000 1000 closed.many left right in
    search rules
