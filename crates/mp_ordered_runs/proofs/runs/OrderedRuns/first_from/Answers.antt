use Rattle.std.proofs.Common.{◌∙◌, sym}
use Rattle.mp_ordered.proofs.Placed.{found_within, from_none, got, got_past, none_from}
use Rattle.mp_ordered_runs.proofs.runs.OrderedRuns.first_from.Goals as goal

pub returns-in-Some-clause-some : goal.returns-in-Some-clause-some
returns-in-Some-clause-some g c =
    let rank = g.O.Order.rank in
    let x = c.args.item.now in
    let s = c.self.inside in
    let y = c.in-Some.found.now in
    let lookup = rw c.deref.ensures.value at c.in-Some.ensures.lookup in
    let from = rw c.deref-2.ensures.value at c.place_of.ensures.from in
    rw (← c.self.view_is) (found_within rank x s.run.items s.rest.items y (sym from ∙ got s.run.items c.place_of.result y lookup.3.0 lookup.1))

pub returns-in-None-clause-some : goal.returns-in-None-clause-some
returns-in-None-clause-some g c =
    let rank = g.O.Order.rank in
    let x = c.args.item.now in
    let s = c.self.inside in
    let past = rw c.deref.ensures.value at c.in-None.ensures.lookup.3 in
    let from = rw c.deref-2.ensures.value at c.place_of.ensures.from in
    let behind = from_none rank x s.run.items s.rest.items (none_from rank x s.run.items (sym from ∙ got_past s.run.items c.place_of.result past)) in
    rw (← c.self.view_is, behind) c.first_from.ensures.some

pub returns-in-None-clause-none : goal.returns-in-None-clause-none
returns-in-None-clause-none g c =
    let rank = g.O.Order.rank in
    let x = c.args.item.now in
    let s = c.self.inside in
    let past = rw c.deref.ensures.value at c.in-None.ensures.lookup.3 in
    let from = rw c.deref-2.ensures.value at c.place_of.ensures.from in
    let behind = from_none rank x s.run.items s.rest.items (none_from rank x s.run.items (sym from ∙ got_past s.run.items c.place_of.result past)) in
    rw (← c.self.view_is, behind) c.first_from.ensures.none
