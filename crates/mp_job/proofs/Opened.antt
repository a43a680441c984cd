-- The cells and the wakes that a job begins with are those of the checkpoint that it goes on from.
use Rattle.std.proofs.Common.{◌≡◌, ◌≢◌, ◌<◌, ◌==◌, ◌&&◌, ℕ, Bool, true, false, Option, Some, List, [], ◌∷◌, filter, map, AllPairs, Contains, refl, sym, subst, ⊎_elim, arith}
use Rattle.std.specs.Prelude.{All}
use Rattle.std.proofs.lemmas.Bool.{and_from, and_parts, cases_Bool, eq-eqb, eqb-true}
use Rattle.std.proofs.lemmas.List.Elements.{All-contains, All-head, All-tail, All-weaker}
use Rattle.mp_opening.specs.Below.{bin_of_key}
use Rattle.mp_model.specs.Facts.{QueryFacts, SavedCell, SavedState, SavedWake}
use Rattle.mp_model.specs.QueryLaws.{TextsTellCells}
use Rattle.mp_model.specs.Tables.{cell_among, opening_wakes}
use Rattle.mp_opening.specs.declared.checkpoint.KeyCell.{KeyCell}
use Rattle.mp_opening.specs.Checkpoints.{KeyIsBefore, saved_in}
use Rattle.mp_opening.specs.Openings.{AreCellsOf, AreWakesOf, CellMayOpen, MayOpen, OpeningOf}
use Rattle.mp_job.specs.Openings.{AreOpeningCells, AreOpeningWakes}
use Rattle.mp_job.specs.Parts.{OpeningFits, table_in}
use Rattle.mp_shares.proofs.Members.{nothing_in_nil, Contains-cases, Contains-filter, Contains-here, Contains-later, Contains-map, filter-Contains, map-Contains}
use Rattle.mp_job.proofs.Whole.{may_as}
use Rattle.mp_job.proofs.Pairs.{AllPairs-head, AllPairs-tail, All-from_Contains}

-- The wakes of a stage

abbrev pair : SavedWake → ℕ × ℕ
pair w = (w.time, w.key)

abbrev is_of : ℕ → SavedWake → Bool
is_of j w = w.stage == j

abbrev wake_of : ℕ → ℕ → ℕ → SavedWake
wake_of j k u = record { stage = j; key = k; time = u }

-- a wake that the stage begins with is a saved one
pub opening_saved : (saved : SavedState) (j k u : ℕ) → Contains (opening_wakes (Some saved) j) (u, k) → Contains saved.wakes (wake_of j k u)
opening_saved saved j k u i =
    let a = Contains-map pair (filter (is_of j) saved.wakes) (u, k) i in
    let b = Contains-filter (is_of j) saved.wakes a.1 (a.0, a.2, a.3) in
    let stage = eqb-true a.1.stage j b.1 in
    let same : a.1 ≡ wake_of j k u = (λ n. record { stage = stage n; key = (a.4 n).1; time = (a.4 n).0 }) in
    subst (Contains saved.wakes) same b.0

-- and the other way round
pub saved_opening : (saved : SavedState) (j k u : ℕ) → Contains saved.wakes (wake_of j k u) → Contains (opening_wakes (Some saved) j) (u, k)
saved_opening saved j k u i =
    let h = filter-Contains (is_of j) saved.wakes (wake_of j k u) i (eq-eqb j j refl) in
    map-Contains pair (filter (is_of j) saved.wakes) (u, k) (h.0, wake_of j k u, h.1, h.2, refl)

module _ {Cell : Type 0} where
  -- no two cells are of one stage and key
  apart : (c s : KeyCell Cell) → KeyIsBefore c s → (c.stage == s.stage && c.key == s.key) ≡ false
  apart c s h =
      ⊎_elim
      (λ (e : (c.stage == s.stage && c.key == s.key) ≡ true). absurd (same e))
      (λ (e : (c.stage == s.stage && c.key == s.key) ≡ false). e)
      (cases_Bool (c.stage == s.stage && c.key == s.key))
    where
      same : (c.stage == s.stage && c.key == s.key) ≡ true → ⊥
      same e =
          let parts = and_parts (c.stage == s.stage) (c.key == s.key) e in
          let stage : c.stage ≡ s.stage = eqb-true c.stage s.stage parts.0 in
          let key : c.key ≡ s.key = eqb-true c.key s.key parts.1 in
          ⊎_elim (λ (l : c.stage < s.stage). omega arith) (λ (l : (c.stage ≡ s.stage) × (c.key < s.key)). let m = l.1 in omega arith) h

  module _ (q : QueryFacts Cell) (text : ℕ → Cell → List ℕ) where
    -- as a saved cell
    abbrev as_text : KeyCell Cell → SavedCell
    as_text s = record { stage = s.stage; key = s.key; text = text s.stage s.cell }

    abbrev IsAllowed : ℕ → KeyCell Cell → Type 0
    IsAllowed t s = q.allows s.stage s.key t s.cell ≡ true

    -- a key whose cell isn't there begins with a fresh one
    cell_fresh : (ss : List (KeyCell Cell)) (j k : ℕ) → ((c : Cell) → Contains ss (record { stage = j; key = k; cell = c }) → ⊥) → cell_among q (map as_text ss) j k ≡ q.fresh j
    cell_fresh [] j k none = refl
    cell_fresh (s ∷ ss) j k none =
        let e : (s.stage == j && s.key == k) ≡ false = ⊎_elim (λ (e : (s.stage == j && s.key == k) ≡ true). absurd (here e)) (λ (e : (s.stage == j && s.key == k) ≡ false). e) (cases_Bool (s.stage == j && s.key == k)) in
        rw e (cell_fresh ss j k (λ c i. none c (Contains-later s (record { stage = j; key = k; cell = c }) ss i)))
      where
        here : (s.stage == j && s.key == k) ≡ true → ⊥
        here e =
            let parts = and_parts (s.stage == j) (s.key == k) e in
            let stage = eqb-true s.stage j parts.0 in
            let key = eqb-true s.key k parts.1 in
            let same : s ≡ record { stage = j; key = k; cell = s.cell } = (λ n. record { stage = stage n; key = key n; cell = s.cell }) in
            none s.cell (subst (Contains (s ∷ ss)) same (Contains-here s ss))

    module _ (tells : TextsTellCells text q) (t : ℕ) where
      -- the cell that stands there for a key is the one that the key begins with
      cell_there : (ss : List (KeyCell Cell)) → All (IsAllowed t) ss → AllPairs KeyIsBefore ss → (s : KeyCell Cell) → Contains ss s → cell_among q (map as_text ss) s.stage s.key ≡ s.cell
      cell_there [] may order s i = absurd (nothing_in_nil s i)
      cell_there (c ∷ cs) may order s i =
          ⊎_elim
          (λ (e : c ≡ s). subst (λ (x : KeyCell Cell). cell_among q (map as_text (c ∷ cs)) x.stage x.key ≡ x.cell) e here)
          (λ (k : Contains cs s). later k (cell_there cs (All-tail (IsAllowed t) c cs may) (AllPairs-tail KeyIsBefore c cs order) s k))
          (Contains-cases c s cs i)
        where
          here : cell_among q (map as_text (c ∷ cs)) c.stage c.key ≡ c.cell
          here =
              let e : (c.stage == c.stage && c.key == c.key) ≡ true = and_from (c.stage == c.stage) (c.key == c.key) (eq-eqb c.stage c.stage refl) (eq-eqb c.key c.key refl) in
              rw e (tells c.stage c.key t c.cell (All-head (IsAllowed t) c cs may))

          later : Contains cs s → cell_among q (map as_text cs) s.stage s.key ≡ s.cell → cell_among q (map as_text (c ∷ cs)) s.stage s.key ≡ s.cell
          later k there = let e = apart c s (AllPairs-head KeyIsBefore c cs order s k) in rw e there

-- The cells and wakes of a bin

module _ {Cell : Type 0} (facts : List ℕ → QueryFacts Cell) (text : ℕ → Cell → List ℕ) (vs : List ℕ) (stop : Option ℕ) where
  abbrev table : Option (OpeningOf Cell) → QueryFacts Cell
  table opening = table_in facts text vs stop opening

  module _ (o : OpeningOf Cell) (j b : ℕ) where
    abbrev Begins : ℕ × Cell → Type 0
    Begins p = (bin_of_key p.0 o.bins ≡ b) × (p.1 ≡ (table (Some o)).opening j p.0)

    cells_open : TextsTellCells text (facts vs) → MayOpen (facts vs) o.from → (cells : List (ℕ × Cell)) → AreCellsOf o j b cells → AreOpeningCells (table (Some o)) o.bins j b cells
    cells_open tells may cells are = record {
      each = All-from_Contains Begins cells begins;
      others = others;
      once = are.once;
    }
      where
        allowed : All (IsAllowed (facts vs) text o.from.time) o.from.cells
        allowed = All-weaker (CellMayOpen (facts vs) o.from.time) (IsAllowed (facts vs) text o.from.time) (λ s h. h.allowed) o.from.cells may.cells

        begins : (p : ℕ × Cell) → Contains cells p → Begins p
        begins p i =
            let there = (are.are p.0 p.1).0 i in
            (there.1, sym (cell_there (facts vs) text tells o.from.time o.from.cells allowed may.cells_ascend (record { stage = j; key = p.0; cell = p.1 }) there.0))

        others : (k : ℕ) → bin_of_key k o.bins ≡ b → All (λ (p : ℕ × Cell). p.0 ≢ k) cells → (table (Some o)).opening j k ≡ (table (Some o)).fresh j
        others k bin none = cell_fresh (facts vs) text o.from.cells j k (λ c i. All-contains (λ (p : ℕ × Cell). p.0 ≢ k) cells (k, c) none ((are.are k c).1 (i, bin)) refl)

    wakes_open : (wakes : List (ℕ × ℕ)) → AreWakesOf o j b wakes → AreOpeningWakes (table (Some o)) o.bins j b wakes
    wakes_open wakes are = record {
      are = λ u k. (
        (λ i. let a = (are.are u k).0 i in (saved_opening (saved_in text o.from) j k u a.0, a.1)),
        λ h. (are.are u k).1 (opening_saved (saved_in text o.from) j k u h.0, h.1),
      );
      ascend = are.ascend;
    }

  module _ (opening : Option (OpeningOf Cell)) (o : OpeningOf Cell) (is : opening ≡ Some o) (bins : ℕ) (opens : OpeningFits (table opening) bins opening) (j b : ℕ) where
    fits : OpeningFits (table (Some o)) bins (Some o)
    fits = subst (λ (x : Option (OpeningOf Cell)). OpeningFits (table x) bins x) is opens

    -- the cells of the checkpoint's bin are those that the bin begins with
    pub cells_opened : TextsTellCells text (facts vs) → (cells : List (ℕ × Cell)) → AreCellsOf o j b cells → AreOpeningCells (table opening) bins j b cells
    cells_opened tells cells are =
        let may = may_as (table (Some o)) (facts vs) o.from refl refl fits.0 in
        subst
        (λ (x : Option (OpeningOf Cell)). AreOpeningCells (table x) bins j b cells)
        (sym is)
        (subst (λ (n : ℕ). AreOpeningCells (table (Some o)) n j b cells) fits.1 (cells_open o j b tells may cells are))

    -- and so are the wakes
    pub wakes_opened : (wakes : List (ℕ × ℕ)) → AreWakesOf o j b wakes → AreOpeningWakes (table opening) bins j b wakes
    wakes_opened wakes are =
        subst
        (λ (x : Option (OpeningOf Cell)). AreOpeningWakes (table x) bins j b wakes)
        (sym is)
        (subst (λ (n : ℕ). AreOpeningWakes (table (Some o)) n j b wakes) fits.1 (wakes_open o j b wakes are))
