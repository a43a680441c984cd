-- What is made of the parts of states: where it stands, and that none of it stands twice.
use Rattle.std.proofs.Common.{◌≡◌, ◌≢◌, ℕ, List, [], ◌∷◌, Contains, arith, map, refl, sym, ap, ◌∙◌, subst}
use Rattle.std.specs.List.{flat_map}
use Rattle.std.specs.Ordering.{nat_cmp}
use Rattle.std.specs.declared.cmp.Ordering.TheVariants.{Less}
use Rattle.mp_bins.specs.Bins.{bin_of_key}
use Rattle.mp_model.specs.Facts.{JobFacts, QueryFacts, SavedWake}
use Rattle.mp_job.proofs.Members.{Contains-flat_map, Contains-map, flat_map-Contains, map-Contains}
use Rattle.mp_outline.proofs.Found.{found, found_there}
use Rattle.mp_outline.proofs.Pairs.{Pairs, Pairs-append}
use Rattle.mp_outline.proofs.PairsMade.{Pairs-map}
use Rattle.mp_postdated.specs.Wakes.{wake_cmp}
use Rattle.mp_opening.specs.declared.checkpoint.KeyCell.{KeyCell}
use Rattle.mp_msg.specs.States.{BinContent}
use Rattle.mp_collect.specs.Gathered.{as_cell, as_wake, cells_of, wakes_of}
use Rattle.mp_collect.proofs.Owned.{AreLast, IsLast, bin_of_state}
use Rattle.mp_collect.proofs.Strict.{Pairs-made, strict_pairs}

module _ {X A B : Type 0} (parts : X → List A) (make : X → A → B) where
  abbrev pub all_made : List X → List B
  all_made xs = flat_map (λ x. map (make x) (parts x)) xs

  -- what is made is made of a part
  pub of_made : (xs : List X) (y : B) → Contains (all_made xs) y → (x : X) × Contains xs x × (a : A) × Contains (parts x) a × (make x a ≡ y)
  of_made xs y i =
      let s = found (λ x. Contains (map (make x) (parts x)) y) xs (Contains-flat_map (λ x. map (make x) (parts x)) xs y i) in
      let a = found (λ b. make s.0 b ≡ y) (parts s.0) (Contains-map (make s.0) (parts s.0) y s.2) in
      (s.0, s.1, a.0, a.1, a.2)

  -- and of each part it is made
  pub made_of : (xs : List X) (x : X) (a : A) → Contains xs x → Contains (parts x) a → Contains (all_made xs) (make x a)
  made_of xs x a i k =
      flat_map-Contains (λ z. map (make z) (parts z)) xs (make x a)
      (found_there (λ z. Contains (map (make z) (parts z)) (make x a)) xs x i (map-Contains (make x) (parts x) (make x a) (found_there (λ b. make x b ≡ make x a) (parts x) a k refl)))

module _ {Cell : Type 0} (q : QueryFacts Cell) (job : JobFacts) where
  abbrev State : Type 0
  State = ℕ × BinContent Cell

  module _ {A B : Type 0} (R : B → B → Type 0) (parts : State → List A) (make : State → A → B)
      (own : (b : ℕ × ℕ) (s : State) → IsLast q job b s → Pairs R (map (make s) (parts s)))
      (between : (b c : ℕ × ℕ) (s u : State) → IsLast q job b s → IsLast q job c u → b ≢ c → (x y : A) → Contains (parts s) x → Contains (parts u) y → R (make s x) (make u y)) where
    -- it holds between what is made of one state and of another, and within each
    made_once : (bs : List (ℕ × ℕ)) (ss : List State) → AreLast q job bs ss → Pairs (λ a b. a ≢ b) bs → Pairs R (all_made parts make ss)
    made_once [] [] h p = tt
    made_once [] (s ∷ ss) h p = absurd h
    made_once (b ∷ bs) [] h p = absurd h
    made_once (b ∷ bs) (s ∷ ss) h p =
        Pairs-append R (map (make s) (parts s)) (all_made parts make ss) (own b s h.0) (made_once bs ss h.1 p.1)
        (λ x y i k.
        let a = found (λ z. make s z ≡ x) (parts s) (Contains-map (make s) (parts s) x i) in
        let u = of_made parts make ss y k in
        let c = bin_of_state q job bs ss h.1 u.0 u.1 in
        subst (λ (v : B). R v y) a.2 (subst (λ (w : B). R (make s a.0) w) u.4 (between b c.0 s u.0 h.0 c.2 (p.0 c.0 c.1) a.0 u.2 a.1 u.3)))

  -- Cells

  abbrev pub CellsApart : KeyCell Cell → KeyCell Cell → Type 0
  CellsApart r s = r.stage ≡ s.stage → r.key ≡ s.key → ⊥

  key_differs : (k l : ℕ) → nat_cmp k l ≡ Less → k ≢ l
  key_differs k l e f = grind arith

  own_cells : (b : ℕ × ℕ) (s : State) → IsLast q job b s → Pairs CellsApart (map (as_cell s.0) s.1.cells)
  own_cells b s h =
      Pairs-map (λ (c d : ℕ × Cell). nat_cmp c.0 d.0 ≡ Less) CellsApart (as_cell s.0) (λ c d l e f. key_differs c.0 d.0 l f) s.1.cells
      (Pairs-made (λ (k l : ℕ). nat_cmp k l ≡ Less) (λ (c : ℕ × Cell). c.0) s.1.cells (strict_pairs nat_cmp (map (λ c. c.0) s.1.cells) h.1.order.cells))

  cells_between : (b c : ℕ × ℕ) (s u : State) → IsLast q job b s → IsLast q job c u → b ≢ c → (x y : ℕ × Cell) → Contains s.1.cells x → Contains u.1.cells y → CellsApart (as_cell s.0 x) (as_cell u.0 y)
  cells_between b c s u h k other x y i j e f =
      let stage : b.0 ≡ c.0 = sym h.0 ∙ e ∙ k.0 in
      let bin : b.1 ≡ c.1 = sym (h.1.own.cells x.0 x.1 i).0 ∙ ap (λ (l : ℕ). bin_of_key l job.shape.bins) f ∙ (k.1.own.cells y.0 y.1 j).0 in
      other (λ n. (stage n, bin n))

  -- no two cells of the states of different bins are of one stage and key
  pub cells_once : (bs : List (ℕ × ℕ)) (ss : List State) → AreLast q job bs ss → Pairs (λ a b. a ≢ b) bs → Pairs CellsApart (cells_of ss)
  cells_once bs ss h p = made_once CellsApart (λ s. s.1.cells) (λ s. as_cell s.0) own_cells cells_between bs ss h p

  -- Wakes

  abbrev pub WakesApart : SavedWake → SavedWake → Type 0
  WakesApart v w = v.stage ≡ w.stage → v.key ≡ w.key → v.time ≡ w.time → ⊥

  wake_differs : (v w : ℕ × ℕ) → wake_cmp v w ≡ Less → v.1 ≡ w.1 → v.0 ≡ w.0 → ⊥
  wake_differs v w e f g = grind arith

  own_wakes : (b : ℕ × ℕ) (s : State) → IsLast q job b s → Pairs WakesApart (map (as_wake s.0) s.1.wakes)
  own_wakes b s h =
      Pairs-map (λ (v w : ℕ × ℕ). wake_cmp v w ≡ Less) WakesApart (as_wake s.0) (λ v w l e f g. wake_differs v w l f g) s.1.wakes (strict_pairs wake_cmp s.1.wakes h.1.order.wakes)

  wakes_between : (b c : ℕ × ℕ) (s u : State) → IsLast q job b s → IsLast q job c u → b ≢ c → (x y : ℕ × ℕ) → Contains s.1.wakes x → Contains u.1.wakes y → WakesApart (as_wake s.0 x) (as_wake u.0 y)
  wakes_between b c s u h k other x y i j e f g =
      let stage : b.0 ≡ c.0 = sym h.0 ∙ e ∙ k.0 in
      let bin : b.1 ≡ c.1 = sym (h.1.own.wakes x.0 x.1 i) ∙ ap (λ (l : ℕ). bin_of_key l job.shape.bins) f ∙ k.1.own.wakes y.0 y.1 j in
      other (λ n. (stage n, bin n))

  -- and no wake stands twice
  pub wakes_once : (bs : List (ℕ × ℕ)) (ss : List State) → AreLast q job bs ss → Pairs (λ a b. a ≢ b) bs → Pairs WakesApart (wakes_of ss)
  wakes_once bs ss h p = made_once WakesApart (λ s. s.1.wakes) (λ s. as_wake s.0) own_wakes wakes_between bs ss h p
