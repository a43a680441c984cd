-- A checkpoint in order and without fresh cells is told by the cells and wakes that it holds.
use Rattle.std.proofs.Common.{◌≡◌, ◌≢◌, ◌⊎◌, ◌==◌, ◌&&◌, ℕ, suc, ◌<◌, Bool, true, false, cond, List, [], ◌∷◌, length, filter, AllPairs, Contains, refl, sym, ap, ◌∙◌, subst, inl, inr, ⊎_elim, arith}
use Rattle.std.proofs.lemmas.Bool.{and_from, and_parts, cases_Bool, eq-eqb, eqb-true}
use Rattle.std.proofs.lemmas.List.Elements.{All-contains}
use Rattle.mp_model.specs.declared.record.Event.{Event}
use Rattle.mp_model.specs.Facts.{QueryFacts}
use Rattle.mp_model.specs.Facts.{SavedWake}
use Rattle.mp_model.specs.Folds.{cell_before}
use Rattle.mp_model.specs.Stages.{stage_records}
use Rattle.mp_model.specs.QueryLaws.{WakeIsBefore}
use Rattle.mp_opening.specs.declared.checkpoint.KeyCell.{KeyCell}
use Rattle.mp_opening.specs.Checkpoints.{CheckpointOf, KeyIsBefore}
use Rattle.mp_restart_laws.specs.Saves.{HoldsWhatIsLeft, IsLeft, StandsInOrder, cell_in}
use Rattle.mp_outline.proofs.Found.{found, found_there}
use Rattle.mp_job.proofs.Members.{Contains-cases, Contains-filter, Contains-here, Contains-later, Contains-map, filter-Contains, map-Contains, nothing_in_nil}
use Rattle.mp_msg.proofs.Ordered.{same_ordered}
use Rattle.mp_outline.proofs.Pairs.{Pairs}

-- what holds between the elements at any two places holds between each element and all later ones
pub AllPairs-to_Pairs : {X : Type 0} (R : X → X → Type 0) (xs : List X) → AllPairs R xs → Pairs R xs
AllPairs-to_Pairs R [] h = tt
AllPairs-to_Pairs R (x ∷ xs) h = (
  (λ y i. let l : i.0 < length xs = i.1 in subst (R x) i.2 (h 0 (suc i.0) y (omega arith) (omega arith))),
  AllPairs-to_Pairs R xs (λ i j d l m. h (suc i) (suc j) d (omega arith) (omega arith)),
)

module _ {Cell : Type 0} where
  cells_apart : (r s : KeyCell Cell) → KeyIsBefore r s → KeyIsBefore s r → ⊥
  cells_apart r s h k =
      ⊎_elim
      (λ (l : r.stage < s.stage). ⊎_elim (λ (m : s.stage < r.stage). omega arith) (λ (m : (s.stage ≡ r.stage) × (s.key < r.key)). let e : s.stage ≡ r.stage = m.0 in omega arith) k)
      (λ (l : (r.stage ≡ s.stage) × (r.key < s.key)).
      let e : r.stage ≡ s.stage = l.0 in
      let f : r.key < s.key = l.1 in
      ⊎_elim (λ (m : s.stage < r.stage). omega arith) (λ (m : (s.stage ≡ r.stage) × (s.key < r.key)). let g : s.key < r.key = m.1 in omega arith) k)
      h

  -- two cells of one stage and key don't stand one in front of the other
  same_place : (r s : KeyCell Cell) → KeyIsBefore r s → r.stage ≡ s.stage → r.key ≡ s.key → ⊥
  same_place r s h e f =
      ⊎_elim (λ (l : r.stage < s.stage). omega arith) (λ (l : (r.stage ≡ s.stage) × (r.key < s.key)). let m : r.key < s.key = l.1 in omega arith) h

  -- the cell that stands for a key is the fresh one, or stands there
  pub stands : (fresh : Cell) (ss : List (KeyCell Cell)) (j k : ℕ) → (cell_in fresh ss j k ≡ fresh) ⊎ ((s : KeyCell Cell) × Contains ss s × (s ≡ record { stage = j; key = k; cell = cell_in fresh ss j k }))
  stands fresh [] j k = inl refl
  stands fresh (s ∷ ss) j k =
      ⊎_elim
      (λ (e : (s.stage == j && s.key == k) ≡ true).
      let p = and_parts (s.stage == j) (s.key == k) e in
      let a = eqb-true s.stage j p.0 in
      let b = eqb-true s.key k p.1 in
      rw e (inr (s, Contains-here s ss, λ i. record { stage = a i; key = b i; cell = s.cell })))
      (λ (e : (s.stage == j && s.key == k) ≡ false).
      rw e (⊎_elim (λ (f : cell_in fresh ss j k ≡ fresh). inl f) (λ (f : (r : KeyCell Cell) × Contains ss r × (r ≡ record { stage = j; key = k; cell = cell_in fresh ss j k })). inr (f.0, Contains-later s f.0 ss f.1, f.2)) (stands fresh ss j k)))
      (cases_Bool (s.stage == j && s.key == k))

  -- in cells that ascend, one that stands there stands for its key
  pub stands_for : (fresh : Cell) (ss : List (KeyCell Cell)) → Pairs KeyIsBefore ss → (s : KeyCell Cell) → Contains ss s → cell_in fresh ss s.stage s.key ≡ s.cell
  stands_for fresh [] h s i = absurd (nothing_in_nil s i)
  stands_for fresh (r ∷ ss) h s i =
      ⊎_elim
      (λ (e : r ≡ s).
      let a = and_from (r.stage == s.stage) (r.key == s.key) (eq-eqb r.stage s.stage (ap (λ (u : KeyCell Cell). u.stage) e)) (eq-eqb r.key s.key (ap (λ (u : KeyCell Cell). u.key) e)) in
      ap (λ b. cond b r.cell (cell_in fresh ss s.stage s.key)) a ∙ ap (λ (u : KeyCell Cell). u.cell) e)
      (λ (m : Contains ss s). by_test (r.stage == s.stage && r.key == s.key) refl m (stands_for fresh ss h.1 s m))
      (Contains-cases r s ss i)
    where
      by_test : (b : Bool) → (r.stage == s.stage && r.key == s.key) ≡ b → Contains ss s → cell_in fresh ss s.stage s.key ≡ s.cell → cond b r.cell (cell_in fresh ss s.stage s.key) ≡ s.cell
      by_test true e m rest = let p = and_parts (r.stage == s.stage) (r.key == s.key) e in absurd (same_place r s (h.0 s m) (eqb-true r.stage s.stage p.0) (eqb-true r.key s.key p.1))
      by_test false e m rest = rest

wakes_apart : (v w : SavedWake) → WakeIsBefore v w → WakeIsBefore w v → ⊥
wakes_apart v w h k =
    ⊎_elim
    (λ (l : v.stage < w.stage). ⊎_elim (λ (m : w.stage < v.stage). omega arith) (λ (m : (w.stage ≡ v.stage) × ((w.key < v.key) ⊎ ((w.key ≡ v.key) × (w.time < v.time)))). let e : w.stage ≡ v.stage = m.0 in omega arith) k)
    (λ (l : (v.stage ≡ w.stage) × ((v.key < w.key) ⊎ ((v.key ≡ w.key) × (v.time < w.time)))).
    let e : v.stage ≡ w.stage = l.0 in
    ⊎_elim (λ (m : w.stage < v.stage). omega arith) (λ (m : (w.stage ≡ v.stage) × ((w.key < v.key) ⊎ ((w.key ≡ v.key) × (w.time < v.time)))). inner l.1 m.1) k)
    h
  where
    inner : ((v.key < w.key) ⊎ ((v.key ≡ w.key) × (v.time < w.time))) → ((w.key < v.key) ⊎ ((w.key ≡ v.key) × (w.time < v.time))) → ⊥
    inner a b =
        ⊎_elim
        (λ (l : v.key < w.key). ⊎_elim (λ (m : w.key < v.key). omega arith) (λ (m : (w.key ≡ v.key) × (w.time < v.time)). let e : w.key ≡ v.key = m.0 in omega arith) b)
        (λ (l : (v.key ≡ w.key) × (v.time < w.time)).
        let e : v.key ≡ w.key = l.0 in
        let f : v.time < w.time = l.1 in
        ⊎_elim (λ (m : w.key < v.key). omega arith) (λ (m : (w.key ≡ v.key) × (w.time < v.time)). let g : w.time < v.time = m.1 in omega arith) b)
        a

module _ {Cell : Type 0} (q : QueryFacts Cell) (events : List Event) where
  -- each cell of the one stands in the other
  within : (c d : CheckpointOf Cell) → c.time ≡ d.time → HoldsWhatIsLeft q events c → StandsInOrder q c → HoldsWhatIsLeft q events d → (s : KeyCell Cell) → Contains c.cells s → Contains d.cells s
  within c d time h order k s i =
      let own = All-contains (λ (r : KeyCell Cell). (r.stage < q.stages) × (r.cell ≢ q.fresh r.stage)) c.cells s order.cells i in
      let mine : cell_in (q.fresh s.stage) c.cells s.stage s.key ≡ s.cell = stands_for (q.fresh s.stage) c.cells (AllPairs-to_Pairs KeyIsBefore c.cells order.cells_ascend) s i in
      let both = ap (cell_before q s.stage (stage_records q events s.stage) s.key) (sym time) in
      let yours : cell_in (q.fresh s.stage) d.cells s.stage s.key ≡ s.cell = k.cells s.stage s.key own.0 ∙ both ∙ sym (h.cells s.stage s.key own.0) ∙ mine in
      ⊎_elim
      (λ (e : cell_in (q.fresh s.stage) d.cells s.stage s.key ≡ q.fresh s.stage). absurd (own.1 (sym yours ∙ e)))
      (λ (e : (r : KeyCell Cell) × Contains d.cells r × (r ≡ record { stage = s.stage; key = s.key; cell = cell_in (q.fresh s.stage) d.cells s.stage s.key })).
      subst (Contains d.cells) (e.2 ∙ (λ n. record { stage = s.stage; key = s.key; cell = yours n })) e.1)
      (stands (q.fresh s.stage) d.cells s.stage s.key)

  wakes_within : (c d : CheckpointOf Cell) → c.time ≡ d.time → HoldsWhatIsLeft q events c → StandsInOrder q c → HoldsWhatIsLeft q events d → (w : SavedWake) → Contains c.wakes w → Contains d.wakes w
  wakes_within c d time h order k w i =
      let own : w.stage < q.stages = All-contains (λ (v : SavedWake). v.stage < q.stages) c.wakes w order.wakes i in
      let left = (h.wakes w.stage w.key w.time own).0 i in
      (k.wakes w.stage w.key w.time own).1 (subst (λ (t : ℕ). IsLeft q t w.stage (stage_records q events w.stage) w.key w.time) time left)

  pub checkpoints_are_one : (c d : CheckpointOf Cell) → c.time ≡ d.time → HoldsWhatIsLeft q events c → StandsInOrder q c → HoldsWhatIsLeft q events d → StandsInOrder q d → c ≡ d
  checkpoints_are_one c d time h order k other =
      let cells = same_ordered KeyIsBefore cells_apart c.cells d.cells (AllPairs-to_Pairs KeyIsBefore c.cells order.cells_ascend) (AllPairs-to_Pairs KeyIsBefore d.cells other.cells_ascend) (within c d time h order k) (within d c (sym time) k other h) in
      let wakes = same_ordered WakeIsBefore wakes_apart c.wakes d.wakes (AllPairs-to_Pairs WakeIsBefore c.wakes order.wakes_ascend) (AllPairs-to_Pairs WakeIsBefore d.wakes other.wakes_ascend) (wakes_within c d time h order k) (wakes_within d c (sym time) k other h) in
      λ n. record { time = time n; cells = cells n; wakes = wakes n }
