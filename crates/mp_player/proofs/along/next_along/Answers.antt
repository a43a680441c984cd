use Rattle.std.proofs.Common.{◌≡◌, ◌<◌, ◌-◌, ◌^◌, ℕ, Some, sym, ◌∙◌, subst, arith}
use Rattle.std.proofs.lemmas.Bool.{false≢true}
use Rattle.std.specs.List.{slice_get}
use Rattle.std.specs.Prelude.{IfSome, Option}
use Rattle.std.proofs.lemmas.Option.{slice_get_within}
use Rattle.mp_chart.specs.declared.entry.Entry.{Entry}
use Rattle.mp_chart.specs.Entries.{entries_of}
use Rattle.mp_chart.specs.Lists.{to_do}
use Rattle.mp_standing.specs.declared.standing.Standing.{Standing}
use Rattle.mp_standing.specs.Numbers.{done_at}
use Rattle.mp_player.proofs.Next.{none_there, none_clear, none_room, next_found, there_of}
use Rattle.mp_player.proofs.along.next_along.Goals as goal

pub returns-in_default-entry_at-clause-none : goal.returns-in_default-entry_at-clause-none
returns-in_default-entry_at-clause-none g c = λ world shows.
    let o = g.C.Chart.outline c.args.chart.now in
    let w = c.args.worker in
    let kind = c.args.kind in
    let state = c.args.state.now in
    let s = c.in-Some.standing.now in
    let there : slice_get state.standings.items w ≡ Some s = there_of state.standings.items c.deref.result.now w s c.deref.ensures.value c.in-Some.ensures.lookup.3.0 c.in-Some.ensures.lookup.1 in
    let low : w < o.workers = omega (arith, c.workers.ensures, c.if-worker-workers.false) in
    none_there o c.args.depth world w kind c.requires state shows s there c.count-place.result c.count-place.ensures low (sym c.entry_at.ensures.at ∙ c.in_default-entry_at.is)

pub returns-then-not-has_seen_enough-clause-none : goal.returns-then-not-has_seen_enough-clause-none
returns-then-not-has_seen_enough-clause-none g c = λ world shows.
    let o = g.C.Chart.outline c.args.chart.now in
    let w = c.args.worker in
    let kind = c.args.kind in
    let state = c.args.state.now in
    let s = c.in-Some.standing.now in
    let there : slice_get state.standings.items w ≡ Some s = there_of state.standings.items c.deref.result.now w s c.deref.ensures.value c.in-Some.ensures.lookup.3.0 c.in-Some.ensures.lookup.1 in
    let low : w < o.workers = omega (arith, c.workers.ensures, c.if-worker-workers.false) in
    let e = c.in-Some-entry_at.entry in
    let is : slice_get (entries_of o (to_do o w kind)) c.count-place.result ≡ Some e = sym c.entry_at.ensures.at ∙ c.in-Some-entry_at.is in
    none_clear o c.args.depth world w kind c.requires state shows s there c.count-place.result c.count-place.ensures e is low (λ x of f a n st p h. false≢true (sym c.if-not-has_seen_enough.true ∙ (c.has_seen_enough.ensures x of f a n st p).1 h))

pub returns-then-not-has_room-clause-none : goal.returns-then-not-has_room-clause-none
returns-then-not-has_room-clause-none g c = λ world shows.
    let o = g.C.Chart.outline c.args.chart.now in
    let w = c.args.worker in
    let kind = c.args.kind in
    let state = c.args.state.now in
    let s = c.in-Some.standing.now in
    let there : slice_get state.standings.items w ≡ Some s = there_of state.standings.items c.deref.result.now w s c.deref.ensures.value c.in-Some.ensures.lookup.3.0 c.in-Some.ensures.lookup.1 in
    let low : w < o.workers = omega (arith, c.workers.ensures, c.if-worker-workers.false) in
    let e = c.in-Some-entry_at.entry in
    let is : slice_get (entries_of o (to_do o w kind)) c.count-place.result ≡ Some e = sym c.entry_at.ensures.at ∙ c.in-Some-entry_at.is in
    none_room o c.args.depth world w kind c.requires state shows s there c.count-place.result c.count-place.ensures e is low (λ h. false≢true (sym c.if-not-has_room.true ∙ c.has_room.ensures.1 h))

pub returns-clause-next : goal.returns-clause-next
returns-clause-next g c = λ world shows.
    let o = g.C.Chart.outline c.args.chart.now in
    let w = c.args.worker in
    let kind = c.args.kind in
    let state = c.args.state.now in
    let s = c.in-Some.standing.now in
    let there : slice_get state.standings.items w ≡ Some s = there_of state.standings.items c.deref.result.now w s c.deref.ensures.value c.in-Some.ensures.lookup.3.0 c.in-Some.ensures.lookup.1 in
    let low : w < o.workers = omega (arith, c.workers.ensures, c.if-worker-workers.false) in
    let e = c.in-Some-entry_at.entry in
    let is : slice_get (entries_of o (to_do o w kind)) c.count-place.result ≡ Some e = sym c.entry_at.ensures.at ∙ c.in-Some-entry_at.is in
    next_found o c.args.depth world w kind c.requires state shows s there c.count-place.result c.count-place.ensures e is low (c.fits.ensures.0 c.if-not-fits.false) (λ x of f a n st p. (c.has_seen_enough.ensures x of f a n st p).0 c.if-not-has_seen_enough.false) (c.has_room.ensures.0 c.if-not-has_room.false)

pub returns-clause-noted : goal.returns-clause-noted
returns-clause-noted g c =
    let o = g.C.Chart.outline c.args.chart.now in
    let w = c.args.worker in
    let kind = c.args.kind in
    let state = c.args.state.now in
    let s = c.in-Some.standing.now in
    let there : slice_get state.standings.items w ≡ Some s = there_of state.standings.items c.deref.result.now w s c.deref.ensures.value c.in-Some.ensures.lookup.3.0 c.in-Some.ensures.lookup.1 in
    let low : w < o.workers = omega (arith, c.workers.ensures, c.if-worker-workers.false) in
    let e = c.in-Some-entry_at.entry in
    let is : slice_get (entries_of o (to_do o w kind)) c.count-place.result ≡ Some e = sym c.entry_at.ensures.at ∙ c.in-Some-entry_at.is in
    record {
      worker = low;
      standing = slice_get_within state.standings.items w s there;
      number = λ t other. let same : s ≡ t = cc in subst (λ (u : Standing). done_at u.done kind < 2 ^ 64 - 1) same (subst (λ (n : ℕ). n < 2 ^ 64 - 1) c.count-place.ensures (subst (λ (r : Option Entry). IfSome r (λ f. c.count-place.result < 2 ^ 64 - 1)) c.in-Some-entry_at.is c.entry_at.ensures.few));
    }
