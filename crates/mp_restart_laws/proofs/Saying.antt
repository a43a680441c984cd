-- A checkpoint that holds what is left says it as a saved state.
use Rattle.std.proofs.Common.{◌≡◌, ◌↔◌, ◌==◌, ◌&&◌, ℕ, Bool, true, false, cond, List, [], ◌∷◌, filter, map, Contains, refl, sym, ap, ◌∙◌, subst}
use Rattle.std.specs.Prelude.{All}
use Rattle.std.proofs.lemmas.Bool.{and_parts, eq-eqb, eqb-true}
use Rattle.std.proofs.lemmas.List.Elements.{All-head, All-tail}
use Rattle.mp_model.specs.declared.record.Event.{Event}
use Rattle.mp_model.specs.Facts.{QueryFacts, SavedCell, SavedWake}
use Rattle.mp_model.specs.QueryLaws.{TextsTellCells}
use Rattle.mp_model.specs.Tables.{cell_among, opening_wakes}
use Rattle.mp_job.proofs.Members.{Contains-filter, Contains-map, filter-Contains, map-Contains}
use Rattle.mp_outline.proofs.Found.{found, found_there}
use Rattle.mp_opening.specs.declared.checkpoint.KeyCell.{KeyCell}
use Rattle.mp_opening.specs.Checkpoints.{CheckpointOf, saved_in}
use Rattle.mp_restart_laws.specs.Saves.{HoldsWhatIsLeft, SaysWhatIsLeft, cell_in}

module _ {Cell : Type 0} (q : QueryFacts Cell) (text : ℕ → Cell → List ℕ) (tells : TextsTellCells text q) where
  -- as a saved cell
  abbrev as_text : KeyCell Cell → SavedCell
  as_text s = record { stage = s.stage; key = s.key; text = text s.stage s.cell }

  -- the cell that is saved for a key is the one that stands there
  cells_said : (t : ℕ) (ss : List (KeyCell Cell)) → All (λ s. q.allows s.stage s.key t s.cell ≡ true) ss → (j k : ℕ) → cell_among q (map as_text ss) j k ≡ cell_in (q.fresh j) ss j k
  cells_said t [] h j k = refl
  cells_said t (s ∷ ss) h j k = by_test (s.stage == j && s.key == k) refl (cells_said t ss (All-tail IsAllowed s ss h) j k)
    where
      IsAllowed : KeyCell Cell → Type 0
      IsAllowed r = q.allows r.stage r.key t r.cell ≡ true

      by_test : (b : Bool) → (s.stage == j && s.key == k) ≡ b → cell_among q (map as_text ss) j k ≡ cell_in (q.fresh j) ss j k
          → cond b (q.cell_of j (text s.stage s.cell)) (cell_among q (map as_text ss) j k) ≡ cond b s.cell (cell_in (q.fresh j) ss j k)
      by_test true e rest =
          ap (λ (i : ℕ). q.cell_of i (text s.stage s.cell)) (sym (eqb-true s.stage j (and_parts (s.stage == j) (s.key == k) e).0))
          ∙ tells s.stage s.key t s.cell (All-head (λ (r : KeyCell Cell). q.allows r.stage r.key t r.cell ≡ true) s ss h)
      by_test false e rest = rest

  module _ (events : List Event) (c : CheckpointOf Cell) (holds : HoldsWhatIsLeft q events c) (allowed : All (λ s. q.allows s.stage s.key c.time s.cell ≡ true) c.cells) where
    abbrev pair : SavedWake → ℕ × ℕ
    pair w = (w.time, w.key)

    abbrev of_stage : ℕ → List SavedWake
    of_stage j = filter (λ (w : SavedWake). w.stage == j) c.wakes

    wake_said : (j k u : ℕ) → Contains (map pair (of_stage j)) (u, k) → Contains c.wakes (record { stage = j; key = k; time = u })
    wake_said j k u i =
        let a = found (λ (w : SavedWake). pair w ≡ (u, k)) (of_stage j) (Contains-map pair (of_stage j) (u, k) i) in
        let b = Contains-filter (λ (w : SavedWake). w.stage == j) c.wakes a.0 a.1 in
        let stage = eqb-true a.0.stage j b.1 in
        let same : a.0 ≡ record { stage = j; key = k; time = u } = (λ n. record { stage = stage n; key = (a.2 n).1; time = (a.2 n).0 }) in
        subst (Contains c.wakes) same b.0

    said_wake : (j k u : ℕ) → Contains c.wakes (record { stage = j; key = k; time = u }) → Contains (map pair (of_stage j)) (u, k)
    said_wake j k u i =
        let w : SavedWake = record { stage = j; key = k; time = u } in
        map-Contains pair (of_stage j) (u, k) (found_there (λ (v : SavedWake). pair v ≡ (u, k)) (of_stage j) w (filter-Contains (λ (v : SavedWake). v.stage == j) c.wakes w i (eq-eqb j j refl)) refl)

    pub says : SaysWhatIsLeft q events (saved_in text c)
    says = record {
      cells = λ j k l. cells_said c.time c.cells allowed j k ∙ holds.cells j k l;
      wakes = λ j k u l. let a = holds.wakes j k u l in ((λ i. a.0 (wake_said j k u i)), λ h. said_wake j k u (a.1 h));
    }
