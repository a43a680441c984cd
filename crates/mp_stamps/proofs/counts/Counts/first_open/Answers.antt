use Rattle.std.proofs.Common.{◌≡◌, ◌<◌, ◌+◌, ℕ, ℤ, List, ap, arith, get_or, length, map, rules, subst, sym, ◌∙◌}
use Rattle.std.proofs.lemmas.List.{length-map}
use Rattle.std.proofs.lemmas.Bool.{false≢true}
use Rattle.mp_names.specs.Locations.{Reaches}
use Rattle.mp_names.proofs.Reach.{path_from_table, table_from_path}
use Rattle.mp_stamps.specs.Counts.{CountTable, IsFirstFor, IsTable}
use Rattle.mp_stamps.specs.Places.{places_of}
use Rattle.mp_stamps.specs.Rows.{RowState}
use Rattle.mp_stamps.proofs.Tabled.{own_counts}
use Rattle.mp_stamps.proofs.Tables.{lesser_of, next_first_for, same_first_for}
use Rattle.mp_stamps.proofs.counts.Counts.first_open.Goals as goal
use Rattle.mp_stamps.proofs.counts.Counts.first_open.Goals.{then-reaches, else-reaches}

pub loop-place-preserved : goal.loop-place-preserved
loop-place-preserved c =
    let table = c.args.self.now in
    let loc = c.args.loc in
    let n = c.loop-place.place in
    let first = c.loop-place.first in
    let here = c.loc_at.result in
    let h : IsTable table = subst IsTable c.self.view_is c.self.invariant.0 in
    let inside : n < places_of table.stages = search rules in
    elim c.if-reaches.branch [
      | then-reaches w ↦
          let row = w.index.result.now in
          let r = path_from_table here loc (sym c.reaches.ensures.table ∙ w.if-reaches.true) in
          let rows : List RowState = c.self.inside.rows.items in
          let read : row ≡ get_or rows n row = search rules in
          let places : length table.rows ≡ places_of table.stages = h.each_place in
          let same : table.rows ≡ map (λ (r : RowState). r.counts) rows = ap (λ (t : CountTable). t.rows) (sym c.self.view_is) in
          let within : n < length rows = omega (arith, inside, places, ap (λ (xs : List (List ℤ)). length xs) same, length-map rows (λ (r : RowState). r.counts)) in
          let e : row.counts ≡ get_or table.rows n row.counts = own_counts c.self.inside.stages c.self.inside.times.items rows n row within read ∙ ap (λ (t : CountTable). get_or t.rows n row.counts) c.self.view_is in
          subst (λ (k : ℕ). IsFirstFor table loc (n + 1) k) (sym w.first-is) (next_first_for table loc n first c.loop-place.invariant here row.counts w.first.result _ h inside c.loc_at.ensures.alone c.loc_at.ensures.there r e w.first.ensures (lesser_of _ first w.first.result w.min-first.ensures))
      | else-reaches w ↦
          let not : Reaches here loc → ⊥ = λ p. false≢true (sym w.if-reaches.false ∙ c.reaches.ensures.table ∙ table_from_path here loc p) in
          subst (λ (k : ℕ). IsFirstFor table loc (n + 1) k) (sym w.first-is) (same_first_for table loc n first c.loop-place.invariant here c.loc_at.ensures.alone not)
    ]
