-- The places of the cells of a checkpoint, and the cells of a bin by them.
use Rattle.std.proofs.Common.{◌≡◌, ◌≢◌, ℕ, zero, suc, ◌+◌, ◌<◌, ◌≤◌, ◌==◌, ◌⊎◌, true, false, Option, None, Some, List, [], ◌∷◌, ◌++◌, All, AllPairs, Contains, filter, get_or, length, length-take, map, take, refl, sym, ap, ◌∙◌, subst, ⊎_elim, arith}
use Rattle.std.specs.List.{IsDistinct, slice_get}
use Rattle.std.specs.Option.{option_map}
use Rattle.std.proofs.lemmas.Bool.{and_from, and_parts, cases_order, eq-eqb, eqb-true, ne_eqb}
use Rattle.std.proofs.lemmas.List.{get_or-map, length-map, map-append, take_more}
use Rattle.std.proofs.lemmas.List.Elements.{All-contains, All-contains_itself, All-weaker}
use Rattle.std.proofs.lemmas.List.Kept.{AllPairs-filter}
use Rattle.std.proofs.lemmas.List.Sorted.{All-permutation, Contains-permutation}
use Rattle.std.proofs.lemmas.Map.Keys.{IsDistinct-IsPermutation, IsDistinct-from_apart, apart_from_distinct}
use Rattle.std.proofs.lemmas.Option.{get_or_from_slice_get, slice_get-get_or, slice_get_cases, slice_get_within}
use Rattle.mp_layout.specs.Bins.{bin_of_key}
use Rattle.mp_opening.specs.declared.checkpoint.KeyCell.{KeyCell}
use Rattle.mp_opening.specs.Checkpoints.{KeyIsBefore}
use Rattle.mp_opening.specs.declared.places.CellPlace.{CellPlace}
use Rattle.mp_opening.specs.ByBin.{AreByBin, cell_at, is_of_bin, place_at, places_from}
use Rattle.mp_opening.specs.Openings.{AreCellsOf, OpeningOf}
use Rattle.mp_opening.proofs.Members.{has_passed, made_of, of_made, stays, was_there}

module _ {Cell : Type 0} (bins : ℕ) where
  length-places : (n : ℕ) (cs : List (KeyCell Cell)) → length (places_from bins n cs) ≡ length cs
  length-places n [] = refl
  length-places n (c ∷ cs) = ap suc (length-places (suc n) cs)

  place_is : (n : ℕ) (cs : List (KeyCell Cell)) (i m : ℕ) (d : CellPlace) (e : KeyCell Cell) → i < length cs → n + i ≡ m → get_or (places_from bins n cs) i d ≡ place_at bins m (get_or cs i e)
  place_is n [] i m d e l s = absurd (omega arith)
  place_is n (c ∷ cs) zero m d e l s = let f : n ≡ m = omega arith in ap (λ (k : ℕ). place_at bins k c) f
  place_is n (c ∷ cs) (suc i) m d e l s = place_is (suc n) cs i m d e (omega arith) (omega arith)

  -- one more cell
  pub places_push : (n : ℕ) (cs : List (KeyCell Cell)) (c : KeyCell Cell) (m : ℕ) → n + length cs ≡ m → places_from bins n (cs ++ c ∷ []) ≡ places_from bins n cs ++ place_at bins m c ∷ []
  places_push n [] c m s = let f : n ≡ m = omega arith in ap (λ (k : ℕ). place_at bins k c ∷ []) f
  places_push n (x ∷ cs) c m s = ap (λ (ps : List CellPlace). place_at bins n x ∷ ps) (places_push (suc n) cs c m (omega arith))

module _ {Cell : Type 0} where
  pub more_places : (bins : ℕ) (cs : List (KeyCell Cell)) (i : ℕ) (ps : List CellPlace) (c : KeyCell Cell) → i < length cs → c ≡ get_or cs i c → ps ≡ places_from bins 0 (take i cs) → ps ++ place_at bins i c ∷ [] ≡ places_from bins 0 (take (i + 1) cs)
  more_places bins cs i ps c l e h =
      let len = length-take i cs in
      ap (λ (qs : List CellPlace). qs ++ place_at bins i c ∷ []) h
      ∙ sym (places_push bins 0 (take i cs) c i (omega arith))
      ∙ ap (λ (x : KeyCell Cell). places_from bins 0 (take i cs ++ x ∷ [])) e
      ∙ ap (places_from bins 0) (sym (take_more cs i c l))

  -- one more cell is read
  pub more_cells : (cells : List (KeyCell Cell)) (own : List CellPlace) (i : ℕ) (d : CellPlace) (out : List (ℕ × Cell)) (s : KeyCell Cell) → i < length own → map (cell_at cells) (take i own) ≡ map Some out → slice_get cells (get_or own i d).place ≡ Some s → map (cell_at cells) (take (i + 1) own) ≡ map Some (out ++ (s.key, s.cell) ∷ [])
  more_cells cells own i d out s l h e =
      ap (map (cell_at cells)) (take_more own i d l)
      ∙ map-append (cell_at cells) (take i own) (get_or own i d ∷ [])
      ∙ ap (λ (xs : List (Option (ℕ × Cell))). xs ++ cell_at cells (get_or own i d) ∷ []) h
      ∙ ap (λ (x : Option (KeyCell Cell)). map Some out ++ option_map (λ r. (r.key, r.cell)) x ∷ []) e
      ∙ sym (map-append Some out ((s.key, s.cell) ∷ []))

some_same : {X : Type 0} (x y : X) → Some x ≡ Some y → x ≡ y
some_same x y e = cc

module _ {Cell : Type 0} (o : OpeningOf Cell) (places : List CellPlace) (wakes : List (ℕ × ℕ)) (by : AreByBin o.bins o.from places wakes) where
  abbrev cells : List (KeyCell Cell)
  cells = o.from.cells

  -- there is a cell at the place, and the place says its stage and its bin
  abbrev pub IsPlace : CellPlace → Type 0
  IsPlace p = (s : KeyCell Cell) × (slice_get cells p.place ≡ Some s) × (p.stage ≡ s.stage) × (p.bin ≡ bin_of_key s.key o.bins)

  pub are_places : All IsPlace places
  are_places = All-permutation IsPlace (places_from o.bins 0 cells) places by.all_cells first
    where
      at : (k : ℕ) (d : CellPlace) → k < length cells → ((s : KeyCell Cell) × (k < length cells) × (slice_get cells k ≡ Some s) × (get_or cells k s ≡ s)) ⊎ ((length cells ≤ k) × (slice_get cells k ≡ None)) → IsPlace (get_or (places_from o.bins 0 cells) k d)
      at k d l h =
          ⊎_elim
          (λ (f : (s : KeyCell Cell) × (k < length cells) × (slice_get cells k ≡ Some s) × (get_or cells k s ≡ s)).
          subst IsPlace (sym (place_is o.bins 0 cells k k d f.0 l (omega arith) ∙ ap (place_at o.bins k) f.3)) (f.0, f.2, refl, refl))
          (λ (f : (length cells ≤ k) × (slice_get cells k ≡ None)). let g = f.0 in absurd (omega arith))
          h

      first : All IsPlace (places_from o.bins 0 cells)
      first k d l = let e = length-places o.bins 0 cells in at k d (omega arith) (slice_get_cases cells k).1

  apart : AllPairs (λ p r. (p.place == r.place) ≡ false) places
  apart i j d l m = apart_from_distinct (λ p r. p.place == r.place) places i j d (IsDistinct-IsPermutation (λ (p r : CellPlace). p.place == r.place) (λ p r. grind arith) (places_from o.bins 0 cells) places by.all_cells once) l m
    where
      differ : (i j : ℕ) (d : CellPlace) → i < j → j < length (places_from o.bins 0 cells) → ((get_or (places_from o.bins 0 cells) i d).place == (get_or (places_from o.bins 0 cells) j d).place) ≡ false
      differ i j d l m = ne_eqb _ _ (λ e. let a = place_of i d (omega arith) in let b = place_of j d m in omega arith)
        where
          place_of : (k : ℕ) (d : CellPlace) → k < length (places_from o.bins 0 cells) → (get_or (places_from o.bins 0 cells) k d).place ≡ k
          place_of k d l = let e = length-places o.bins 0 cells in ⊎_elim (λ f. ap (λ (p : CellPlace). p.place) (place_is o.bins 0 cells k k d f.0 (omega arith) (omega arith))) (λ f. let g = f.0 in absurd (omega arith)) (slice_get_cases cells k).1

      once : IsDistinct (λ p r. p.place == r.place) (places_from o.bins 0 cells)
      once = IsDistinct-from_apart (λ p r. p.place == r.place) (places_from o.bins 0 cells) differ

  module _ (j b : ℕ) where
    abbrev own : List CellPlace
    own = filter (is_of_bin j b) places

    -- the cell at the place is of the stage, and its key is in the bin
    abbrev IsOwn : CellPlace → Type 0
    IsOwn p = (s : KeyCell Cell) × (slice_get cells p.place ≡ Some s) × (s.stage ≡ j) × (bin_of_key s.key o.bins ≡ b)

    own_places : (p : CellPlace) → Contains own p → IsOwn p
    own_places p i =
        let of = All-contains IsPlace places p are_places (was_there (is_of_bin j b) places p i) in
        let test = and_parts (p.stage == j) (p.bin == b) (has_passed (is_of_bin j b) places p i) in
        (of.0, of.1, sym of.2 ∙ eqb-true p.stage j test.0, sym of.3 ∙ eqb-true p.bin b test.1)

    all_own : All IsOwn own
    all_own = All-weaker (Contains own) IsOwn own_places own (All-contains_itself own)

    -- each stands inside the list of cells
    pub inside : All (λ p. p.place < length cells) own
    inside = All-weaker IsOwn (λ (p : CellPlace). p.place < length cells) (λ p h. slice_get_within cells p.place h.0 h.1) own all_own

    module _ (out : List (ℕ × Cell)) (read : map (cell_at cells) own ≡ map Some out) where
      of_cell : (k : ℕ) (c : Cell) → Contains out (k, c) → Contains cells (record { stage = j; key = k; cell = c }) × (bin_of_key k o.bins ≡ b)
      of_cell k c i =
          let there = subst (λ (xs : List (Option (ℕ × Cell))). Contains xs (Some (k, c))) (sym read) (made_of Some out (k, c) i) in
          let p = of_made (cell_at cells) own (Some (k, c)) there in
          let s = own_places p.0 p.1 in
          let e : (s.0.key, s.0.cell) ≡ (k, c) = some_same _ _ (sym (ap (option_map (λ (r : KeyCell Cell). (r.key, r.cell))) s.1) ∙ p.2) in
          let key : s.0.key ≡ k = ap (λ (x : ℕ × Cell). x.0) e in
          let cell : s.0.cell ≡ c = ap (λ (x : ℕ × Cell). x.1) e in
          let is : s.0 ≡ record { stage = j; key = k; cell = c } = same s.0 j k c s.2 key cell in
          let at : Contains cells s.0 = (p.0.place, slice_get_within cells p.0.place s.0 s.1, get_or_from_slice_get cells p.0.place s.0 s.0 s.1) in
          (subst (Contains cells) is at, subst (λ (n : ℕ). bin_of_key n o.bins ≡ b) key s.3)
        where
          same : (s : KeyCell Cell) (j k : ℕ) (c : Cell) → s.stage ≡ j → s.key ≡ k → s.cell ≡ c → s ≡ record { stage = j; key = k; cell = c }
          same s j k c e f g =
              let a : s ≡ record { stage = j; key = s.key; cell = s.cell } = ap (λ (n : ℕ). record s { stage = n }) e in
              let b : record { stage = j; key = s.key; cell = s.cell } ≡ record { stage = j; key = k; cell = s.cell } = ap (λ (n : ℕ). record { stage = j; key = n; cell = s.cell }) f in
              a ∙ b ∙ ap (λ (x : Cell). record { stage = j; key = k; cell = x }) g

      to_cell : (k : ℕ) (c : Cell) → Contains cells (record { stage = j; key = k; cell = c }) × (bin_of_key k o.bins ≡ b) → Contains out (k, c)
      to_cell k c h =
          let s : KeyCell Cell = record { stage = j; key = k; cell = c } in
          let i = h.0 in
          let p : CellPlace = place_at o.bins i.0 s in
          let len = length-places o.bins 0 cells in
          let near : i.0 < length cells = i.1 in
          let first : Contains (places_from o.bins 0 cells) p = (i.0, omega arith, place_is o.bins 0 cells i.0 i.0 p s i.1 (omega arith) ∙ ap (place_at o.bins i.0) i.2) in
          let passes : is_of_bin j b p ≡ true = and_from (j == j) (bin_of_key k o.bins == b) (eq-eqb j j refl) (eq-eqb (bin_of_key k o.bins) b h.1) in
          let there : Contains own p = stays (is_of_bin j b) places p (Contains-permutation (places_from o.bins 0 cells) places p by.all_cells first) passes in
          let reads : cell_at cells p ≡ Some (k, c) = ap (option_map (λ (r : KeyCell Cell). (r.key, r.cell))) (slice_get-get_or cells i.0 s i.1 ∙ ap Some i.2) in
          let made = subst (λ (xs : List (Option (ℕ × Cell))). Contains xs (Some (k, c))) read (subst (Contains (map (cell_at cells) own)) reads (made_of (cell_at cells) own p there)) in
          let x = of_made Some out (Some (k, c)) made in
          subst (Contains out) (some_same x.0 (k, c) x.2) x.1

      key_at : (i : ℕ) (d : ℕ × Cell) (p : CellPlace) → i < length own → (s : KeyCell Cell) → slice_get cells (get_or own i p).place ≡ Some s → s.key ≡ (get_or out i d).0
      key_at i d p l s e =
          let len : length own ≡ length out = sym (length-map own (cell_at cells)) ∙ ap length read ∙ length-map out Some in
          let left = get_or-map (cell_at cells) own i p None l in
          let right = get_or-map Some out i d None (omega arith) in
          let both : Some (s.key, s.cell) ≡ Some (get_or out i d) = sym (ap (option_map (λ (r : KeyCell Cell). (r.key, r.cell))) e) ∙ sym left ∙ ap (λ (xs : List (Option (ℕ × Cell))). get_or xs i None) read ∙ right in
          ap (λ (x : ℕ × Cell). x.0) (some_same (s.key, s.cell) (get_or out i d) both)

      -- cells of one stage and key don't stand at two places
      not_twice : (n m : ℕ) (s t : KeyCell Cell) → n < m → slice_get cells n ≡ Some s → slice_get cells m ≡ Some t → s.stage ≡ t.stage → s.key ≡ t.key → ⊥
      not_twice n m s t l e f g h =
          let up = by.cells_ascend n m s l (slice_get_within cells m t f) in
          let up_s = subst (λ (x : KeyCell Cell). KeyIsBefore x (get_or cells m s)) (get_or_from_slice_get cells n s s e) up in
          let up_t = subst (λ (x : KeyCell Cell). KeyIsBefore s x) (get_or_from_slice_get cells m t s f) up_s in
          ⊎_elim (λ (k : s.stage < t.stage). omega arith) (λ (k : (s.stage ≡ t.stage) × (s.key < t.key)). let less = k.1 in omega arith) up_t

      once : AllPairs (λ c d. c.0 ≢ d.0) out
      once i l d lt m same =
          let len : length own ≡ length out = sym (length-map own (cell_at cells)) ∙ ap length read ∙ length-map out Some in
          let p : CellPlace = record { stage = 0; bin = 0; place = 0 } in
          let s = all_own i p (omega arith) in
          let t = all_own l p (omega arith) in
          let key : s.0.key ≡ t.0.key = key_at i d p (omega arith) s.0 s.1 ∙ same ∙ sym (key_at l d p (omega arith) t.0 t.1) in
          let stage : s.0.stage ≡ t.0.stage = s.2 ∙ sym t.2 in
          let other = AllPairs-filter (λ (x y : CellPlace). (x.place == y.place) ≡ false) (is_of_bin j b) places apart i l p lt (omega arith) in
          pick (get_or own i p).place (get_or own l p).place s.0 t.0 other s.1 t.1 stage key
        where
          pick : (n m : ℕ) (s t : KeyCell Cell) → (n == m) ≡ false → slice_get cells n ≡ Some s → slice_get cells m ≡ Some t → s.stage ≡ t.stage → s.key ≡ t.key → ⊥
          pick n m s t other e f g h =
              ⊎_elim
              (λ (q : n ≡ m). let k = eq-eqb n m q in cc)
              (λ (q : (n < m) ⊎ (m < n)). ⊎_elim (λ (k : n < m). not_twice n m s t k e f g h) (λ (k : m < n). not_twice m n t s k f e (sym g) (sym h)) q)
              (cases_order n m)

      -- what is read at the places of the bin are its cells
      pub cells_of_bin : AreCellsOf o j b out
      cells_of_bin = record {
        are = λ k c. (of_cell k c, to_cell k c);
        once = once;
      }
