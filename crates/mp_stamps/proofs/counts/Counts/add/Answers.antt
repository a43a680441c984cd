use Rattle.std.proofs.Common.{◌≡◌, ◌<◌, ◌≤◌, ◌/◌, ◌∙◌, ℕ, ℤ, [], List, ap, arith, get_or, length, rules, set, subst, sym, Contains, w64, SFits}
use Rattle.std.proofs.lemmas.Bool.{false≢true}
use Rattle.std.proofs.lemmas.List.{get_or_default, get_or-set_same}
use Rattle.std.proofs.lemmas.List.Elements.{All-get_or}
use Rattle.std.proofs.lemmas.Int.{to_z-of_z}
use Rattle.mp_names.specs.declared.locations.Frontier.{Frontier}
use Rattle.mp_names.specs.declared.locations.Frontier.TheVariants.{At, Done}
use Rattle.mp_names.specs.Frontiers.{IsFrontierOf}
use Rattle.mp_stamps.specs.Counts.{CountTable, IsRowFor, IsTable, count_in, count_of, low_of, row_of, start_of, table_of_rows}
use Rattle.mp_stamps.specs.Flow.{AreFirstTimes, IsFirstTime}
use Rattle.mp_stamps.specs.Places.{place_of}
use Rattle.mp_stamps.specs.Rows.{RowState}
use Rattle.mp_stamps.proofs.LeastTimes.{first_time_once, firsts_still, firsts_then, first_time_still, frontier_still, here, still_table, with_row}
use Rattle.mp_stamps.proofs.Tabled.{other_row, own_counts, own_low, place_in}
use Rattle.mp_stamps.proofs.Tables.{Searched, added_fits, added_here, added_others, found_time, has_not_contained, is_counted, long_row, missed_time, rises, row_set, searched_in}
use Rattle.mp_stamps.proofs.Times.{start_after, start_upto}
use Rattle.mp_stamps.proofs.counts.Counts.add.Goals as goal

pub returns-in_default-clause-counted : goal.returns-in_default-clause-counted
returns-in_default-clause-counted c =
    let inside : CountTable = table_of_rows c.self.inside.stages c.self.inside.times.items c.self.inside.rows.items in
    let t = c.args.time in
    let there : Searched inside t c.self.invariant.0 c.index_of.result = searched_in c.deref.result.now inside.times t c.index_of.result c.deref.ensures.value c.index_of.ensures in
    let none = missed_time inside t c.self.invariant.0 c.index_of.result c.in_default.field-0 there c.in_default.is in
    λ counted. absurd (has_not_contained inside.times t none (subst (λ (table : CountTable). Contains table.times t) (sym c.self.view_is) counted.1))

pub add-moved-requires-clause-index : goal.add-moved-requires-clause-index
add-moved-requires-clause-index c =
    let rows : List RowState = c.self.inside.rows.items in
    let inside : CountTable = table_of_rows c.self.inside.stages c.self.inside.times.items rows in
    let t = c.args.time in
    let p = c.place_of-place.result in
    let there : Searched inside t c.self.invariant.0 c.index_of.result = searched_in c.deref.result.now inside.times t c.index_of.result c.deref.ensures.value c.index_of.ensures in
    let row = c.index_mut.result.now in
    let within : p < length rows = search rules in
    let own = own_counts inside.stages inside.times rows p row within c.index_mut.ensures.value in
    let found = found_time inside t c.self.invariant.0 c.index_of.result c.in-Ok.index there c.in-Ok.is in
    let long = All-get_or (IsRowFor (length inside.times)) inside.rows p row.counts (place_in inside.stages inside.times rows p within) c.self.invariant.0.each_time in
    omega (arith, found.0, long_row (length inside.times) row.counts (subst (IsRowFor (length inside.times)) (sym own) long))

pub returns-then-index-given-clause-counted : goal.returns-then-index-given-clause-counted
returns-then-index-given-clause-counted c =
    let rows : List RowState = c.self.inside.rows.items in
    let inside : CountTable = table_of_rows c.self.inside.stages c.self.inside.times.items rows in
    let t = c.args.time in
    let p = c.place_of-place.result in
    let within : p < length rows = search rules in
    let there : Searched inside t c.self.invariant.0 c.index_of.result = searched_in c.deref.result.now inside.times t c.index_of.result c.deref.ensures.value c.index_of.ensures in
    let found = found_time inside t c.self.invariant.0 c.index_of.result c.in-Ok.index there c.in-Ok.is in
    let before : c.in-Ok.index / 1024 < c.index-2.result.now.given = search rules in
    let low : low_of inside c.args.loc ≡ start_of inside.times c.index-2.result.now.given = ap (λ (n : ℕ). get_or inside.low n 0) (sym c.place_of-place.ensures) ∙ own_low inside.stages inside.times rows p c.index-2.result.now within c.index-2.ensures in
    let start = start_after inside.times c.in-Ok.index c.index-2.result.now.given (rises inside.times c.self.invariant.0.rising) found.0 before in
    λ counted.
    let kept : low_of inside c.args.loc ≤ t = subst (λ (table : CountTable). low_of table c.args.loc ≤ t) (sym c.self.view_is) counted.2 in
    absurd (omega (arith, low, start, found.1, kept))

pub add-moved-requires-clause-fits : goal.add-moved-requires-clause-fits
add-moved-requires-clause-fits c =
    let rows : List RowState = c.self.inside.rows.items in
    let inside : CountTable = table_of_rows c.self.inside.stages c.self.inside.times.items rows in
    let t = c.args.time in
    let p = c.place_of-place.result in
    let within : p < length rows = search rules in
    let there : Searched inside t c.self.invariant.0 c.index_of.result = searched_in c.deref.result.now inside.times t c.index_of.result c.deref.ensures.value c.index_of.ensures in
    let row = c.index_mut.result.now in
    let place = place_in inside.stages inside.times rows p within in
    let own = own_counts inside.stages inside.times rows p row within c.index_mut.ensures.value in
    let found = found_time inside t c.self.invariant.0 c.index_of.result c.in-Ok.index there c.in-Ok.is in
    let past : c.index-2.result.now.given ≤ c.in-Ok.index / 1024 = search rules in
    let low : low_of inside c.args.loc ≡ start_of inside.times c.index-2.result.now.given = ap (λ (n : ℕ). get_or inside.low n 0) (sym c.place_of-place.ensures) ∙ own_low inside.stages inside.times rows p c.index-2.result.now within c.index-2.ensures in
    let start = start_upto inside.times c.in-Ok.index c.index-2.result.now.given (rises inside.times c.self.invariant.0.rising) found.0 past in
    let kept : low_of inside c.args.loc ≤ t = omega (arith, low, start, found.1) in
    let by : SFits w64 c.args.by = search rules in
    added_fits inside c.args.self.now t c.self.invariant.0 c.self.view_is c.args.loc p c.place_of-place.ensures place c.index_of.result c.in-Ok.index there c.in-Ok.is row.counts own _ c.args.by (to_z-of_z w64 c.args.by by) kept c.requires

pub follow_first-requires-clause-long : goal.follow_first-requires-clause-long
follow_first-requires-clause-long c =
    let rows : List RowState = c.self.inside.rows.items in
    let inside : CountTable = table_of_rows c.self.inside.stages c.self.inside.times.items rows in
    let t = c.args.time in
    let p = c.place_of-place.result in
    let within : p < length rows = search rules in
    let there : Searched inside t c.self.invariant.0 c.index_of.result = searched_in c.deref.result.now inside.times t c.index_of.result c.deref.ensures.value c.index_of.ensures in
    let row = c.index_mut.result.now in
    let place = place_in inside.stages inside.times rows p within in
    let own = own_counts inside.stages inside.times rows p row within c.index_mut.ensures.value in
    let then : table_of_rows inside.stages inside.times (set rows p c.add-moved.new.self) ≡ record inside { rows = set inside.rows p c.add-moved.new.self.counts } = other_row inside.stages inside.times rows p row within c.index_mut.ensures.value c.add-moved.new.self c.add-moved.ensures.given in
    let each : IsRowFor (length inside.times) row.counts = subst (IsRowFor (length inside.times)) (sym own) (All-get_or (IsRowFor (length inside.times)) inside.rows p row.counts place c.self.invariant.0.each_time) in
    let found = found_time inside t c.self.invariant.0 c.index_of.result c.in-Ok.index there c.in-Ok.is in
    let new = c.add-moved.new.self.counts in
    let long : IsRowFor (length inside.times) new = subst (IsRowFor (length inside.times)) (sym c.add-moved.ensures.counts) (row_set (length inside.times) row.counts c.in-Ok.index _ found.0 each) in
    let read : c.index-3.result.now ≡ c.add-moved.new.self = c.index-3.ensures ∙ get_or-set_same rows p c.add-moved.new.self c.index-3.result.now within in
    let enough = long_row (length inside.times) new long in
    omega (arith, enough, ap (λ (r : RowState). length r.counts) read, ap (λ (ts : List ℕ). length ts) c.deref-2.ensures.value)

pub follow_first-requires-clause-still : goal.follow_first-requires-clause-still
follow_first-requires-clause-still c =
    let rows : List RowState = c.self.inside.rows.items in
    let inside : CountTable = table_of_rows c.self.inside.stages c.self.inside.times.items rows in
    let t = c.args.time in
    let p = c.place_of-place.result in
    let within : p < length rows = search rules in
    let there : Searched inside t c.self.invariant.0 c.index_of.result = searched_in c.deref.result.now inside.times t c.index_of.result c.deref.ensures.value c.index_of.ensures in
    let row = c.index_mut.result.now in
    let place = place_in inside.stages inside.times rows p within in
    let own = own_counts inside.stages inside.times rows p row within c.index_mut.ensures.value in
    let then : table_of_rows inside.stages inside.times (set rows p c.add-moved.new.self) ≡ record inside { rows = set inside.rows p c.add-moved.new.self.counts } = other_row inside.stages inside.times rows p row within c.index_mut.ensures.value c.add-moved.new.self c.add-moved.ensures.given in
    let each : IsRowFor (length inside.times) row.counts = subst (IsRowFor (length inside.times)) (sym own) (All-get_or (IsRowFor (length inside.times)) inside.rows p row.counts place c.self.invariant.0.each_time) in
    let found = found_time inside t c.self.invariant.0 c.index_of.result c.in-Ok.index there c.in-Ok.is in
    let new = c.add-moved.new.self.counts in
    let long : IsRowFor (length inside.times) new = subst (IsRowFor (length inside.times)) (sym c.add-moved.ensures.counts) (row_set (length inside.times) row.counts c.in-Ok.index _ found.0 each) in
    let read : c.index-3.result.now ≡ c.add-moved.new.self = c.index-3.ensures ∙ get_or-set_same rows p c.add-moved.new.self c.index-3.result.now within in
    let firsts = c.self.inside.firsts in
    let loc = c.args.loc in
    let inner : p < length firsts = search rules in
    let own_row : row_of inside loc ≡ row.counts = ap (λ (n : ℕ). get_or inside.rows n []) (sym c.place_of-place.ensures) ∙ get_or_default inside.rows p [] row.counts place ∙ sym own in
    let before : get_or firsts (place_of loc) Done ≡ get_or firsts p (At 0) = ap (λ (n : ℕ). get_or firsts n Done) (sym c.place_of-place.ensures) ∙ get_or_default firsts p Done (At 0) inner in
    let was : IsFirstTime (count_of inside.times row.counts) (get_or firsts p (At 0)) =
    subst (λ (f : Frontier). IsFirstTime (count_of inside.times row.counts) f) before (subst (λ (r : List ℤ). IsFirstTime (count_of inside.times r) (get_or firsts (place_of loc) Done)) own_row (c.self.invariant.1 loc)) in
    let old_long : length inside.times ≤ length row.counts = omega (arith, long_row (length inside.times) row.counts each) in
    let new_long : length inside.times ≤ length new = omega (arith, long_row (length inside.times) new long) in
    λ same.
    let first = c.add-moved.ensures.still same in
    rw (c.deref-2.ensures.value, read) (first_time_still inside.times row.counts new first.0 _ c.self.invariant.0.rising old_long new_long first.1 first.2 was)

pub returns-clause-counted : goal.returns-clause-counted
returns-clause-counted c =
    let rows : List RowState = c.self.inside.rows.items in
    let inside : CountTable = table_of_rows c.self.inside.stages c.self.inside.times.items rows in
    let t = c.args.time in
    let p = c.place_of-place.result in
    let within : p < length rows = search rules in
    let there : Searched inside t c.self.invariant.0 c.index_of.result = searched_in c.deref.result.now inside.times t c.index_of.result c.deref.ensures.value c.index_of.ensures in
    let row = c.index_mut.result.now in
    let place = place_in inside.stages inside.times rows p within in
    let own = own_counts inside.stages inside.times rows p row within c.index_mut.ensures.value in
    let by : SFits w64 c.args.by = search rules in
    let then : table_of_rows inside.stages inside.times (set rows p c.add-moved.new.self) ≡ record inside { rows = set inside.rows p c.add-moved.new.self.counts } = other_row inside.stages inside.times rows p row within c.index_mut.ensures.value c.add-moved.new.self c.add-moved.ensures.given in
    λ _. ap (λ (table : CountTable). count_in table c.args.loc t) then ∙ added_here inside c.args.self.now t c.self.invariant.0 c.self.view_is c.args.loc p c.place_of-place.ensures place c.index_of.result c.in-Ok.index there c.in-Ok.is row.counts own _ c.args.by (to_z-of_z w64 c.args.by by) c.add-moved.new.self.counts c.add-moved.ensures.counts

pub returns-clause-others : goal.returns-clause-others
returns-clause-others c =
    let rows : List RowState = c.self.inside.rows.items in
    let inside : CountTable = table_of_rows c.self.inside.stages c.self.inside.times.items rows in
    let t = c.args.time in
    let p = c.place_of-place.result in
    let within : p < length rows = search rules in
    let there : Searched inside t c.self.invariant.0 c.index_of.result = searched_in c.deref.result.now inside.times t c.index_of.result c.deref.ensures.value c.index_of.ensures in
    let row = c.index_mut.result.now in
    let place = place_in inside.stages inside.times rows p within in
    let own = own_counts inside.stages inside.times rows p row within c.index_mut.ensures.value in
    let by : SFits w64 c.args.by = search rules in
    let then : table_of_rows inside.stages inside.times (set rows p c.add-moved.new.self) ≡ record inside { rows = set inside.rows p c.add-moved.new.self.counts } = other_row inside.stages inside.times rows p row within c.index_mut.ensures.value c.add-moved.new.self c.add-moved.ensures.given in
    λ at u n. ap (λ (table : CountTable). count_in table at u) then ∙ added_others inside c.args.self.now t c.self.invariant.0 c.self.view_is c.args.loc p c.place_of-place.ensures place c.index_of.result c.in-Ok.index there c.in-Ok.is row.counts own _ c.args.by (to_z-of_z w64 c.args.by by) c.add-moved.new.self.counts c.add-moved.ensures.counts at u n

pub returns-clause-dropped : goal.returns-clause-dropped
returns-clause-dropped c =
    let rows : List RowState = c.self.inside.rows.items in
    let inside : CountTable = table_of_rows c.self.inside.stages c.self.inside.times.items rows in
    let t = c.args.time in
    let p = c.place_of-place.result in
    let within : p < length rows = search rules in
    let there : Searched inside t c.self.invariant.0 c.index_of.result = searched_in c.deref.result.now inside.times t c.index_of.result c.deref.ensures.value c.index_of.ensures in
    let row = c.index_mut.result.now in
    let place = place_in inside.stages inside.times rows p within in
    let own = own_counts inside.stages inside.times rows p row within c.index_mut.ensures.value in
    let found = found_time inside t c.self.invariant.0 c.index_of.result c.in-Ok.index there c.in-Ok.is in
    let past : c.index-2.result.now.given ≤ c.in-Ok.index / 1024 = search rules in
    let low : low_of inside c.args.loc ≡ start_of inside.times c.index-2.result.now.given = ap (λ (n : ℕ). get_or inside.low n 0) (sym c.place_of-place.ensures) ∙ own_low inside.stages inside.times rows p c.index-2.result.now within c.index-2.ensures in
    let start = start_upto inside.times c.in-Ok.index c.index-2.result.now.given (rises inside.times c.self.invariant.0.rising) found.0 past in
    let kept : low_of inside c.args.loc ≤ t = omega (arith, low, start, found.1) in
    let by : SFits w64 c.args.by = search rules in
    λ not. absurd (not (is_counted inside c.args.self.now t c.self.invariant.0 c.self.view_is c.args.loc p c.place_of-place.ensures place c.index_of.result c.in-Ok.index there c.in-Ok.is row.counts own _ c.args.by (to_z-of_z w64 c.args.by by) kept))

pub returns-clause-same : goal.returns-clause-same
returns-clause-same c =
    let rows : List RowState = c.self.inside.rows.items in
    let inside : CountTable = table_of_rows c.self.inside.stages c.self.inside.times.items rows in
    let t = c.args.time in
    let p = c.place_of-place.result in
    let within : p < length rows = search rules in
    let there : Searched inside t c.self.invariant.0 c.index_of.result = searched_in c.deref.result.now inside.times t c.index_of.result c.deref.ensures.value c.index_of.ensures in
    let row = c.index_mut.result.now in
    let place = place_in inside.stages inside.times rows p within in
    let own = own_counts inside.stages inside.times rows p row within c.index_mut.ensures.value in
    let then : table_of_rows inside.stages inside.times (set rows p c.add-moved.new.self) ≡ record inside { rows = set inside.rows p c.add-moved.new.self.counts } = other_row inside.stages inside.times rows p row within c.index_mut.ensures.value c.add-moved.new.self c.add-moved.ensures.given in
    record {
      stages = ap (λ (table : CountTable). table.stages) c.self.view_is;
      times = ap (λ (table : CountTable). table.times) c.self.view_is;
      low = ap (λ (table : CountTable). table.low) then ∙ ap (λ (table : CountTable). table.low) c.self.view_is;
    }

pub invariant_of-self : goal.invariant_of-self
invariant_of-self c =
    let rows : List RowState = c.self.inside.rows.items in
    let inside : CountTable = table_of_rows c.self.inside.stages c.self.inside.times.items rows in
    let t = c.args.time in
    let p = c.place_of-place.result in
    let within : p < length rows = search rules in
    let there : Searched inside t c.self.invariant.0 c.index_of.result = searched_in c.deref.result.now inside.times t c.index_of.result c.deref.ensures.value c.index_of.ensures in
    let row = c.index_mut.result.now in
    let place = place_in inside.stages inside.times rows p within in
    let own = own_counts inside.stages inside.times rows p row within c.index_mut.ensures.value in
    let then : table_of_rows inside.stages inside.times (set rows p c.add-moved.new.self) ≡ record inside { rows = set inside.rows p c.add-moved.new.self.counts } = other_row inside.stages inside.times rows p row within c.index_mut.ensures.value c.add-moved.new.self c.add-moved.ensures.given in
    let each : IsRowFor (length inside.times) row.counts = subst (IsRowFor (length inside.times)) (sym own) (All-get_or (IsRowFor (length inside.times)) inside.rows p row.counts place c.self.invariant.0.each_time) in
    let found = found_time inside t c.self.invariant.0 c.index_of.result c.in-Ok.index there c.in-Ok.is in
    let new = c.add-moved.new.self.counts in
    let long : IsRowFor (length inside.times) new = subst (IsRowFor (length inside.times)) (sym c.add-moved.ensures.counts) (row_set (length inside.times) row.counts c.in-Ok.index _ found.0 each) in
    let firsts = c.self.inside.firsts in
    let first = c.follow_first.new.first in
    let is : IsFirstTime (count_of inside.times new) first = search rules in
    let inner : p < length firsts = search rules in (
      subst IsTable (sym then) (still_table inside p new c.self.invariant.0 long),
      subst (λ (table : CountTable). AreFirstTimes table (set firsts p first)) (sym then) (firsts_then inside p new c.self.invariant.0 long firsts first place is c.self.invariant.1 inner),
    )

pub returns-clause-still : goal.returns-clause-still
returns-clause-still c =
    let rows : List RowState = c.self.inside.rows.items in
    let inside : CountTable = table_of_rows c.self.inside.stages c.self.inside.times.items rows in
    let t = c.args.time in
    let p = c.place_of-place.result in
    let within : p < length rows = search rules in
    let there : Searched inside t c.self.invariant.0 c.index_of.result = searched_in c.deref.result.now inside.times t c.index_of.result c.deref.ensures.value c.index_of.ensures in
    let row = c.index_mut.result.now in
    let place = place_in inside.stages inside.times rows p within in
    let own = own_counts inside.stages inside.times rows p row within c.index_mut.ensures.value in
    let then : table_of_rows inside.stages inside.times (set rows p c.add-moved.new.self) ≡ record inside { rows = set inside.rows p c.add-moved.new.self.counts } = other_row inside.stages inside.times rows p row within c.index_mut.ensures.value c.add-moved.new.self c.add-moved.ensures.given in
    let each : IsRowFor (length inside.times) row.counts = subst (IsRowFor (length inside.times)) (sym own) (All-get_or (IsRowFor (length inside.times)) inside.rows p row.counts place c.self.invariant.0.each_time) in
    let found = found_time inside t c.self.invariant.0 c.index_of.result c.in-Ok.index there c.in-Ok.is in
    let new = c.add-moved.new.self.counts in
    let long : IsRowFor (length inside.times) new = subst (IsRowFor (length inside.times)) (sym c.add-moved.ensures.counts) (row_set (length inside.times) row.counts c.in-Ok.index _ found.0 each) in
    let firsts = c.self.inside.firsts in
    let first = c.follow_first.new.first in
    let is : IsFirstTime (count_of inside.times new) first = search rules in
    let inner : p < length firsts = search rules in
    let now = c.args.self.now in
    let was : AreFirstTimes now firsts = subst (λ (t : CountTable). AreFirstTimes t firsts) c.self.view_is c.self.invariant.1 in
    λ still at f h.
    let same : first ≡ get_or firsts p Done = c.follow_first.ensures.moved.0 still ∙ get_or_default firsts p (At 0) Done inner in
    let is_now = firsts_still inside p new c.self.invariant.0 long firsts first place is c.self.invariant.1 same in
    subst (λ (table : CountTable). IsFrontierOf (count_in table) at f) (sym then) (frontier_still (count_in now) (count_in (with_row inside p new c.self.invariant.0 long)) (λ a. get_or firsts (place_of a) Done) was is_now at f h)

pub returns-clause-moved : goal.returns-clause-moved
returns-clause-moved c =
    let rows : List RowState = c.self.inside.rows.items in
    let inside : CountTable = table_of_rows c.self.inside.stages c.self.inside.times.items rows in
    let t = c.args.time in
    let p = c.place_of-place.result in
    let within : p < length rows = search rules in
    let there : Searched inside t c.self.invariant.0 c.index_of.result = searched_in c.deref.result.now inside.times t c.index_of.result c.deref.ensures.value c.index_of.ensures in
    let row = c.index_mut.result.now in
    let place = place_in inside.stages inside.times rows p within in
    let own = own_counts inside.stages inside.times rows p row within c.index_mut.ensures.value in
    let then : table_of_rows inside.stages inside.times (set rows p c.add-moved.new.self) ≡ record inside { rows = set inside.rows p c.add-moved.new.self.counts } = other_row inside.stages inside.times rows p row within c.index_mut.ensures.value c.add-moved.new.self c.add-moved.ensures.given in
    let each : IsRowFor (length inside.times) row.counts = subst (IsRowFor (length inside.times)) (sym own) (All-get_or (IsRowFor (length inside.times)) inside.rows p row.counts place c.self.invariant.0.each_time) in
    let found = found_time inside t c.self.invariant.0 c.index_of.result c.in-Ok.index there c.in-Ok.is in
    let new = c.add-moved.new.self.counts in
    let long : IsRowFor (length inside.times) new = subst (IsRowFor (length inside.times)) (sym c.add-moved.ensures.counts) (row_set (length inside.times) row.counts c.in-Ok.index _ found.0 each) in
    let firsts = c.self.inside.firsts in
    let first = c.follow_first.new.first in
    let is : IsFirstTime (count_of inside.times new) first = search rules in
    let inner : p < length firsts = search rules in
    let loc = c.args.loc in
    let was : AreFirstTimes c.args.self.now firsts = subst (λ (t : CountTable). AreFirstTimes t firsts) c.self.view_is c.self.invariant.1 in
    let is_now = subst (λ (table : CountTable). IsFirstTime (count_in table loc) first) (sym then) (here inside p new c.self.invariant.0 long firsts first place is c.self.invariant.1 loc (sym c.place_of-place.ensures)) in
    λ moved f h k.
    let before : f ≡ get_or firsts p Done = first_time_once _ _ _ h (was loc) ∙ ap (λ i. get_or firsts i Done) (sym c.place_of-place.ensures) in
    let after : f ≡ first = first_time_once _ _ _ k is_now in
    false≢true (sym (c.follow_first.ensures.moved.1 (sym after ∙ before ∙ sym (get_or_default firsts p (At 0) Done inner))) ∙ moved)
