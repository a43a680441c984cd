-- The pieces whose times are all below hold zeros.
use Rattle.std.proofs.Common.{Contains, ◌≡◌, ◌<◌, ◌≤◌, ◌∙◌, ℕ, ℤ, List, [], ap, ap₂, arith, get_or, length, max, pos, rules, set, subst, sym, ⊎_elim}
use Rattle.std.proofs.lemmas.Bool.{cases_lt}
use Rattle.std.proofs.lemmas.List.{get_or_default, get_or-set_other, get_or-set_same, length-set}
use Rattle.std.proofs.lemmas.List.Elements.{All-get_or}
use Rattle.mp_names.specs.Frontiers.{IsFrontierOf}
use Rattle.mp_names.specs.Locations.{IsLocation}
use Rattle.mp_stamps.specs.Counts.{CountTable, IsRowFor, IsTable, count_in, low_of, piece_start, pieces_below, row_of, start_of, table_of_rows}
use Rattle.mp_stamps.specs.Flow.{AreFirstTimes}
use Rattle.mp_stamps.specs.Places.{place_of}
use Rattle.mp_stamps.specs.Rows.{RowState}
use Rattle.mp_stamps.proofs.Tabled.{lower_row, own_counts, own_low, place_in}
use Rattle.mp_stamps.proofs.Tables.{count_in_there, place_once, rises}
use Rattle.mp_stamps.proofs.Times.{before_start, pieces_before, pieces_few, start_max, start_rises}
use Rattle.mp_stamps.proofs.counts.Counts.drop_below.Goals as goal

pub returns-then-has_no_piece_below-clause-given_back : goal.returns-then-has_no_piece_below-clause-given_back
returns-then-has_no_piece_below-clause-given_back c =
    let rows : List RowState = c.self.inside.rows.items in
    let inside : CountTable = table_of_rows c.self.inside.stages c.self.inside.times.items rows in
    let t = c.args.time in
    let p = c.place_of-place.result in
    let within : p < length rows = search rules in
    let low : low_of inside c.args.loc ≡ start_of inside.times c.index.result.now.given = ap (λ (n : ℕ). get_or inside.low n 0) (sym c.place_of-place.ensures) ∙ own_low inside.stages inside.times rows p c.index.result.now within c.index.ensures in
    let few : pieces_below inside.times t ≤ c.index.result.now.given = search rules in
    let start = start_rises inside.times _ _ (rises inside.times c.self.invariant.0.rising) few in
    let is : low_of inside c.args.loc ≡ max (low_of inside c.args.loc) (piece_start inside.times t) = omega (arith, low, start) in
    λ _. subst (λ (table : CountTable). low_of table c.args.loc ≡ max (low_of table c.args.loc) (piece_start table.times t)) c.self.view_is is

pub give_back-requires-clause-count : goal.give_back-requires-clause-count
give_back-requires-clause-count c =
    let rows : List RowState = c.self.inside.rows.items in
    let inside : CountTable = table_of_rows c.self.inside.stages c.self.inside.times.items rows in
    let t = c.args.time in
    let p = c.place_of-place.result in
    let within : p < length rows = search rules in
    let row = c.index_mut.result.now in
    let place = place_in inside.stages inside.times rows p within in
    let own = own_counts inside.stages inside.times rows p row within c.index_mut.ensures.value in
    let count : c.pieces_below-count.result ≡ pieces_below inside.times t = c.pieces_below-count.ensures ∙ ap (λ (ts : List ℕ). pieces_below ts t) c.deref-2.ensures.value in
    let each : IsRowFor (length inside.times) row.counts = subst (IsRowFor (length inside.times)) (sym own) (All-get_or (IsRowFor (length inside.times)) inside.rows p row.counts place c.self.invariant.0.each_time) in
    omega (arith, count, pieces_few inside.times t, each.long)

pub give_back-requires-clause-zero : goal.give_back-requires-clause-zero
give_back-requires-clause-zero c =
    let rows : List RowState = c.self.inside.rows.items in
    let inside : CountTable = table_of_rows c.self.inside.stages c.self.inside.times.items rows in
    let t = c.args.time in
    let p = c.place_of-place.result in
    let within : p < length rows = search rules in
    let row = c.index_mut.result.now in
    let place = place_in inside.stages inside.times rows p within in
    let own = own_counts inside.stages inside.times rows p row within c.index_mut.ensures.value in
    let count : c.pieces_below-count.result ≡ pieces_below inside.times t = c.pieces_below-count.ensures ∙ ap (λ (ts : List ℕ). pieces_below ts t) c.deref-2.ensures.value in
    let each : IsRowFor (length inside.times) row.counts = subst (IsRowFor (length inside.times)) (sym own) (All-get_or (IsRowFor (length inside.times)) inside.rows p row.counts place c.self.invariant.0.each_time) in
    let placed : place_of c.args.loc < length inside.rows = subst (λ (n : ℕ). n < length inside.rows) c.place_of-place.ensures place in
    let is_row : row_of inside c.args.loc ≡ row.counts = ap (λ (n : ℕ). get_or inside.rows n []) (sym c.place_of-place.ensures) ∙ get_or_default inside.rows p [] row.counts place ∙ sym own in
    λ k l.
    ⊎_elim
    (λ (m : k < length inside.times).
    let before = pieces_before inside.times t k (rises inside.times c.self.invariant.0.rising) m (omega (arith, l, count)) in
    let zero : count_in inside c.args.loc (get_or inside.times k 0) ≡ pos 0 = ap (λ (table : CountTable). count_in table c.args.loc (get_or inside.times k 0)) c.self.view_is ∙ c.requires.none (get_or inside.times k 0) before in
    ap (λ (xs : List ℤ). get_or xs k (pos 0)) (sym is_row) ∙ sym (count_in_there inside c.args.loc k c.self.invariant.0 placed m) ∙ zero)
    (λ (m : length inside.times ≤ k). each.no_more k m)
    (cases_lt k (length inside.times))

pub invariant_of-self : goal.invariant_of-self
invariant_of-self c =
    let rows : List RowState = c.self.inside.rows.items in
    let inside : CountTable = table_of_rows c.self.inside.stages c.self.inside.times.items rows in
    let t = c.args.time in
    let p = c.place_of-place.result in
    let within : p < length rows = search rules in
    let row = c.index_mut.result.now in
    let place = place_in inside.stages inside.times rows p within in
    let own = own_counts inside.stages inside.times rows p row within c.index_mut.ensures.value in
    let count : c.pieces_below-count.result ≡ pieces_below inside.times t = c.pieces_below-count.ensures ∙ ap (λ (ts : List ℕ). pieces_below ts t) c.deref-2.ensures.value in
    let then : table_of_rows inside.stages inside.times (set rows p c.give_back.new.self) ≡ record inside { low = set inside.low p (start_of inside.times c.give_back.new.self.given) } = lower_row inside.stages inside.times rows p row within c.index_mut.ensures.value c.give_back.new.self (ap (λ (r : RowState). r.counts) c.give_back.ensures) in
    let h = c.self.invariant.0 in
    let firsts = c.self.inside.firsts in
    let lower : IsTable (record inside { low = set inside.low p (start_of inside.times c.give_back.new.self.given) }) = record {
      few_stages = h.few_stages;
      rising = h.rising;
      each_place = h.each_place;
      each_time = h.each_time;
      each_low = length-set inside.low p _ ∙ h.each_low;
    } in
    (subst IsTable (sym then) lower, subst (λ (table : CountTable). AreFirstTimes table firsts) (sym then) (λ at. c.self.invariant.1 at))

pub returns-clause-counts : goal.returns-clause-counts
returns-clause-counts c =
    let rows : List RowState = c.self.inside.rows.items in
    let inside : CountTable = table_of_rows c.self.inside.stages c.self.inside.times.items rows in
    let t = c.args.time in
    let p = c.place_of-place.result in
    let within : p < length rows = search rules in
    let row = c.index_mut.result.now in
    let place = place_in inside.stages inside.times rows p within in
    let own = own_counts inside.stages inside.times rows p row within c.index_mut.ensures.value in
    let count : c.pieces_below-count.result ≡ pieces_below inside.times t = c.pieces_below-count.ensures ∙ ap (λ (ts : List ℕ). pieces_below ts t) c.deref-2.ensures.value in
    let then : table_of_rows inside.stages inside.times (set rows p c.give_back.new.self) ≡ record inside { low = set inside.low p (start_of inside.times c.give_back.new.self.given) } = lower_row inside.stages inside.times rows p row within c.index_mut.ensures.value c.give_back.new.self (ap (λ (r : RowState). r.counts) c.give_back.ensures) in
    λ at u. ap (λ (table : CountTable). count_in table at u) then ∙ ap (λ (table : CountTable). count_in table at u) c.self.view_is

pub returns-clause-given_back : goal.returns-clause-given_back
returns-clause-given_back c =
    let rows : List RowState = c.self.inside.rows.items in
    let inside : CountTable = table_of_rows c.self.inside.stages c.self.inside.times.items rows in
    let t = c.args.time in
    let p = c.place_of-place.result in
    let within : p < length rows = search rules in
    let row = c.index_mut.result.now in
    let place = place_in inside.stages inside.times rows p within in
    let own = own_counts inside.stages inside.times rows p row within c.index_mut.ensures.value in
    let count : c.pieces_below-count.result ≡ pieces_below inside.times t = c.pieces_below-count.ensures ∙ ap (λ (ts : List ℕ). pieces_below ts t) c.deref-2.ensures.value in
    let then : table_of_rows inside.stages inside.times (set rows p c.give_back.new.self) ≡ record inside { low = set inside.low p (start_of inside.times c.give_back.new.self.given) } = lower_row inside.stages inside.times rows p row within c.index_mut.ensures.value c.give_back.new.self (ap (λ (r : RowState). r.counts) c.give_back.ensures) in
    let h = c.self.invariant.0 in
    let low : low_of inside c.args.loc ≡ start_of inside.times row.given = ap (λ (n : ℕ). get_or inside.low n 0) (sym c.place_of-place.ensures) ∙ own_low inside.stages inside.times rows p row within c.index_mut.ensures.value in
    let there : p < length inside.low = omega (arith, place, h.each_low) in
    let more : start_of inside.times c.give_back.new.self.given ≡ max (low_of inside c.args.loc) (piece_start inside.times t) =
    ap (λ (r : RowState). start_of inside.times r.given) c.give_back.ensures
    ∙ start_max inside.times row.given c.pieces_below-count.result (rises inside.times h.rising)
    ∙ ap₂ (λ (a b : ℕ). max a b) (sym low) (ap (start_of inside.times) count) in
    λ _.
    ap (λ (table : CountTable). low_of table c.args.loc) then
    ∙ ap (λ (n : ℕ). get_or (set inside.low p (start_of inside.times c.give_back.new.self.given)) n 0) (sym c.place_of-place.ensures)
    ∙ get_or-set_same inside.low p _ 0 there
    ∙ more
    ∙ ap (λ (table : CountTable). max (low_of table c.args.loc) (piece_start table.times t)) c.self.view_is

pub returns-clause-others : goal.returns-clause-others
returns-clause-others c =
    let rows : List RowState = c.self.inside.rows.items in
    let inside : CountTable = table_of_rows c.self.inside.stages c.self.inside.times.items rows in
    let t = c.args.time in
    let p = c.place_of-place.result in
    let within : p < length rows = search rules in
    let row = c.index_mut.result.now in
    let place = place_in inside.stages inside.times rows p within in
    let own = own_counts inside.stages inside.times rows p row within c.index_mut.ensures.value in
    let count : c.pieces_below-count.result ≡ pieces_below inside.times t = c.pieces_below-count.ensures ∙ ap (λ (ts : List ℕ). pieces_below ts t) c.deref-2.ensures.value in
    let then : table_of_rows inside.stages inside.times (set rows p c.give_back.new.self) ≡ record inside { low = set inside.low p (start_of inside.times c.give_back.new.self.given) } = lower_row inside.stages inside.times rows p row within c.index_mut.ensures.value c.give_back.new.self (ap (λ (r : RowState). r.counts) c.give_back.ensures) in
    λ at n.
    ap (λ (table : CountTable). low_of table at) then
    ∙ get_or-set_other inside.low p (place_of at) _ 0 (λ e. n (place_once at c.args.loc (e ∙ c.place_of-place.ensures)))
    ∙ ap (λ (table : CountTable). low_of table at) c.self.view_is

pub returns-clause-frontiers : goal.returns-clause-frontiers
returns-clause-frontiers c =
    let rows : List RowState = c.self.inside.rows.items in
    let inside : CountTable = table_of_rows c.self.inside.stages c.self.inside.times.items rows in
    let t = c.args.time in
    let p = c.place_of-place.result in
    let within : p < length rows = search rules in
    let row = c.index_mut.result.now in
    let place = place_in inside.stages inside.times rows p within in
    let own = own_counts inside.stages inside.times rows p row within c.index_mut.ensures.value in
    let count : c.pieces_below-count.result ≡ pieces_below inside.times t = c.pieces_below-count.ensures ∙ ap (λ (ts : List ℕ). pieces_below ts t) c.deref-2.ensures.value in
    let then : table_of_rows inside.stages inside.times (set rows p c.give_back.new.self) ≡ record inside { low = set inside.low p (start_of inside.times c.give_back.new.self.given) } = lower_row inside.stages inside.times rows p row within c.index_mut.ensures.value c.give_back.new.self (ap (λ (r : RowState). r.counts) c.give_back.ensures) in
    λ at f h. subst (λ (table : CountTable). IsFrontierOf (count_in table) at f) (sym then) (subst (λ (table : CountTable). IsFrontierOf (count_in table) at f) (sym c.self.view_is) h)

pub returns-clause-same : goal.returns-clause-same
returns-clause-same c = (ap (λ (table : CountTable). table.stages) c.self.view_is, ap (λ (table : CountTable). table.times) c.self.view_is)

pub returns-clause-kept : goal.returns-clause-kept
returns-clause-kept c =
    let now = c.args.self.now in
    let h : IsTable now = subst IsTable c.self.view_is c.self.invariant.0 in
    λ u from counted.
    let low = returns-clause-given_back c counted.0 in
    let was : low_of now c.args.loc ≤ u = counted.2 in
    let start : piece_start now.times c.args.time ≤ u =
    ⊎_elim
    (λ (l : u < piece_start now.times c.args.time). absurd (let b = before_start now.times u c.args.time (rises now.times h.rising) counted.1 l in omega (arith, b, from)))
    (λ (l : piece_start now.times c.args.time ≤ u). l)
    (cases_lt u (piece_start now.times c.args.time)) in
    let stages = returns-clause-same c in
    (subst (λ (n : ℕ). IsLocation n c.args.loc) (sym stages.0) counted.0, subst (λ (ts : List ℕ). Contains ts u) (sym stages.1) counted.1, omega (arith, low, was, start))
