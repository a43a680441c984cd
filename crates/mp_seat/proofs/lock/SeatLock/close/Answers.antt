use Rattle.std.proofs.Common.{◌∙◌, rules}
use Rattle.std.specs.List.Sorted.{IsNonDecreasingBy}
use Rattle.std.proofs.lemmas.List.Sorted.{IsNonDecreasingBy-from_sort_by_key}
use Rattle.mp_seat.proofs.Sorting.{as_many, have_rows, many_rows, number_of, same_latest, sorted_in_order}
use Rattle.mp_seat.proofs.lock.SeatLock.close.Given as given
use Rattle.mp_seat.proofs.lock.SeatLock.close.Goals as goal

rise : (g : given.Over) (c : goal.After-sort_unstable_by_key g) → IsNonDecreasingBy number_of c.sort_unstable_by_key.new.self.items
rise g c = IsNonDecreasingBy-from_sort_by_key number_of _ c.sort_unstable_by_key.ensures.sorted (λ a r q k. search rules)

pub close_in_order-requires-clause-seats : goal.close_in_order-requires-clause-seats
close_in_order-requires-clause-seats g c =
    let sorted = c.sort_unstable_by_key.ensures in
    sorted_in_order c.args.self c.args.seats.items c.sort_unstable_by_key.new.self.items c.requires.seats sorted.permutation (rise g c)

pub close_in_order-requires-clause-all : goal.close_in_order-requires-clause-all
close_in_order-requires-clause-all g c =
    let sorted = c.sort_unstable_by_key.ensures in
    as_many c.args.self c.args.seats.items c.sort_unstable_by_key.new.self.items c.requires.seats sorted.permutation (rise g c)

pub returns-clause-many : goal.returns-clause-many
returns-clause-many g c =
    let sorted = c.sort_unstable_by_key.ensures in
    many_rows c.args.self c.args.seats.items c.sort_unstable_by_key.new.self.items c.requires.seats sorted.permutation (rise g c.before) (g.T.Rows.rows c.close_in_order.result) c.close_in_order.ensures.rows

pub returns-clause-rows : goal.returns-clause-rows
returns-clause-rows g c =
    let sorted = c.sort_unstable_by_key.ensures in
    have_rows c.args.self c.args.seats.items c.sort_unstable_by_key.new.self.items c.requires.seats sorted.permutation (rise g c.before) (g.T.Rows.rows c.close_in_order.result) c.close_in_order.ensures.rows

pub returns-clause-version : goal.returns-clause-version
returns-clause-version g c =
    let sorted = c.sort_unstable_by_key.ensures in
    c.close_in_order.ensures.version ∙ same_latest c.args.self c.args.seats.items c.sort_unstable_by_key.new.self.items c.requires.seats sorted.permutation (rise g c.before)
