use Rattle.std.proofs.Common.{◌≡◌, ◌<◌, ◌≤◌, arith, get_or, length, rules, subst, sym, ap, ◌∙◌, List, SFits}
use Rattle.std.specs.Int.{w128}
use Rattle.std.proofs.lemmas.Int.{to_z-of_z}
use Rattle.std.proofs.lemmas.List.{length-map}
use Rattle.std.proofs.lemmas.List.Elements.{All-get_or}
use Rattle.mp_stamps.specs.Counts.{CountTable, IsRowFor, IsTable, table_of_rows}
use Rattle.mp_stamps.specs.Places.{place_of}
use Rattle.mp_stamps.specs.Rows.{RowState}
use Rattle.mp_stamps.proofs.Tabled.{own_counts, place_in}
use Rattle.mp_stamps.proofs.Tables.{Searched, count_read, found_time, long_row, missed_time, no_row, no_time, searched_in}
use Rattle.mp_stamps.proofs.counts.Counts.at.Goals as goal

pub returns-then-place-len : goal.returns-then-place-len
returns-then-place-len c =
    let rows : List RowState = c.self.inside.rows.items in
    let past : length rows ≤ place_of c.args.loc = search rules in
    let inside : CountTable = table_of_rows c.self.inside.stages c.self.inside.times.items rows in
    let none = no_row inside c.args.loc c.args.time (omega (arith, past, length-map rows (λ (r : RowState). r.counts))) in
    rw (← c.self.view_is) (sym none)

pub at-requires : goal.at-requires
at-requires c =
    let rows : List RowState = c.self.inside.rows.items in
    let inside : CountTable = table_of_rows c.self.inside.stages c.self.inside.times.items rows in
    let h = c.self.invariant.0 in
    let p = place_of c.args.loc in
    let within : p < length rows = search rules in
    let there : Searched inside c.args.time h c.index_of.result = searched_in c.deref.result.now inside.times c.args.time c.index_of.result c.deref.ensures.value c.index_of.ensures in
    let row : c.index-in-Ok.result.now ≡ get_or rows p c.index-in-Ok.result.now = search rules in
    let own = own_counts inside.stages inside.times rows p c.index-in-Ok.result.now within row in
    let found = found_time inside c.args.time h c.index_of.result c.in-Ok.index there c.in-Ok.is in
    let long = All-get_or (IsRowFor (length inside.times)) inside.rows p c.index-in-Ok.result.now.counts (place_in inside.stages inside.times rows p within) h.each_time in
    omega (arith, found.0, long_row (length inside.times) c.index-in-Ok.result.now.counts (subst (IsRowFor (length inside.times)) (sym own) long))

pub returns-in-Ok : goal.returns-in-Ok
returns-in-Ok c =
    let rows : List RowState = c.self.inside.rows.items in
    let inside : CountTable = table_of_rows c.self.inside.stages c.self.inside.times.items rows in
    let h = c.self.invariant.0 in
    let within : place_of c.args.loc < length rows = search rules in
    let fits : SFits w128 c.at.result = search rules in
    let there : Searched inside c.args.time h c.index_of.result = searched_in c.deref.result.now inside.times c.args.time c.index_of.result c.deref.ensures.value c.index_of.ensures in
    let row : c.index-in-Ok.result.now ≡ get_or rows (place_of c.args.loc) c.index-in-Ok.result.now = search rules in
    let own = own_counts inside.stages inside.times rows (place_of c.args.loc) c.index-in-Ok.result.now within row in
    let is = count_read inside c.args.time h c.args.loc c.index_of.result c.in-Ok.index c.index-in-Ok.result.now.counts c.at.result (place_in inside.stages inside.times rows (place_of c.args.loc) within) there c.in-Ok.is own c.at.ensures in
    rw (← c.self.view_is) (to_z-of_z w128 c.at.result fits ∙ is)

pub returns-in-Err : goal.returns-in-Err
returns-in-Err c =
    let table = c.args.self.now in
    let h : IsTable table = subst IsTable c.self.view_is c.self.invariant.0 in
    let there : Searched table c.args.time h c.index_of.result = searched_in c.deref.result.now table.times c.args.time c.index_of.result (c.deref.ensures.value ∙ ap (λ (n : CountTable). n.times) c.self.view_is) c.index_of.ensures in
    sym (no_time table c.args.loc c.args.time (missed_time table c.args.time h c.index_of.result c.in-Err.field-0 there c.in-Err.is))
