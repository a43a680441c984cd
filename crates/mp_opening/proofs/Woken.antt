-- The wakes of a checkpoint by bin, and those of a bin.
use Rattle.std.proofs.Common.{◌≡◌, ◌≢◌, ℕ, ◌<◌, ◌↔◌, ◌⊎◌, false, List, [], AllPairs, Contains, filter, get_or, map, sym, ap, ◌∙◌, subst, ⊎_elim, arith}
use Rattle.std.proofs.lemmas.Bool.{eq-eqb, eqb-true, false_from_ne_true}
use Rattle.std.proofs.lemmas.List.{get_or-map, length-map}
use Rattle.std.proofs.lemmas.List.Elements.{All-contains, filter_passes}
use Rattle.std.proofs.lemmas.List.Kept.{AllPairs-filter}
use Rattle.std.proofs.lemmas.List.Sorted.{Contains-permutation, IsPermutation-sym}
use Rattle.std.specs.List.Sorted.{IsSortedByKey}
use Rattle.std.specs.Ordering.{nat_cmp}
use Rattle.std.specs.declared.cmp.Ordering.TheVariants.{Less}
use Rattle.mp_layout.specs.Bins.{bin_of_key}
use Rattle.mp_model.specs.Facts.{SavedWake}
use Rattle.mp_model.specs.QueryLaws.{WakeIsBefore}
use Rattle.mp_opening.specs.declared.places.CellPlace.{CellPlace}
use Rattle.mp_opening.specs.ByBin.{AreByBin, rank_of_wake, time_and_key, triple_cmp, wakes_in}
use Rattle.mp_opening.specs.Openings.{AreWakesOf, OpeningOf}
use Rattle.mp_opening.proofs.Members.{has_passed, made_of, of_made, stays, was_there}
use Rattle.mp_opening.proofs.Orders.{all_equal, first_sorted, sorted_rises, then_second, tie, triple_total}

-- wakes by bin, time and key are by bin
pub by_bin : (bins : ℕ) (ws : List (ℕ × ℕ)) → IsSortedByKey (rank_of_wake bins) triple_cmp ws → IsSortedByKey (λ w. bin_of_key w.1 bins) nat_cmp ws
by_bin bins ws up k d low l = first_sorted _ _ _ (up k d low l)

module _ {Cell : Type 0} (o : OpeningOf Cell) (places : List CellPlace) (wakes : List (ℕ × ℕ)) (by : AreByBin o.bins o.from places wakes) where
  abbrev saved : List SavedWake
  saved = o.from.wakes

  first_wake : (w : SavedWake) → Contains saved w → w.stage ≡ 0
  first_wake w i = All-contains (λ (v : SavedWake). v.stage ≡ 0) saved w by.first i

  -- no wake stands twice
  differ : (v w : SavedWake) → v.stage ≡ 0 → w.stage ≡ 0 → WakeIsBefore v w → tie triple_total (rank_of_wake o.bins) (time_and_key v) (time_and_key w) ≡ false
  differ v w e f h =
      false_from_ne_true (tie triple_total (rank_of_wake o.bins) (time_and_key v) (time_and_key w)) (λ t. let same = all_equal (bin_of_key v.key o.bins) v.time v.key (bin_of_key w.key o.bins) w.time w.key t in let time : v.time ≡ w.time = same.0 in let key : v.key ≡ w.key = same.1 in
      ⊎_elim
      (λ (l : v.stage < w.stage). omega arith)
      (λ (g : (v.stage ≡ w.stage) × ((v.key < w.key) ⊎ ((v.key ≡ w.key) × (v.time < w.time)))). ⊎_elim (λ (l : v.key < w.key). omega arith) (λ (l : (v.key ≡ w.key) × (v.time < w.time)). let less = l.1 in omega arith) g.1)
      h)

  apart : AllPairs (λ v w. tie triple_total (rank_of_wake o.bins) v w ≡ false) (map time_and_key saved)
  apart i j d l m =
      let len = length-map saved time_and_key in
      let e : SavedWake = record { stage = 0; key = 0; time = 0 } in
      let v = get_or-map time_and_key saved i e d (omega arith) in
      let w = get_or-map time_and_key saved j e d (omega arith) in
      let T : ℕ × ℕ → ℕ × ℕ → Type 0 = λ x y. tie triple_total (rank_of_wake o.bins) x y ≡ false in
      let here = differ (get_or saved i e) (get_or saved j e) (by.first i e (omega arith)) (by.first j e (omega arith)) (by.wakes_ascend i j e l (omega arith)) in
      subst (λ (x : ℕ × ℕ). T x (get_or (map time_and_key saved) j d)) (sym v) (subst (λ (y : ℕ × ℕ). T (time_and_key (get_or saved i e)) y) (sym w) here)

  rise : AllPairs (λ v w. triple_cmp (rank_of_wake o.bins v) (rank_of_wake o.bins w) ≡ Less) wakes
  rise = sorted_rises triple_total (rank_of_wake o.bins) (map time_and_key saved) wakes by.all_wakes by.wakes_by_bin apart

  -- a wake and its time and key
  pub of_wake : (w : ℕ × ℕ) → Contains wakes w → (v : SavedWake) × Contains saved v × (time_and_key v ≡ w)
  of_wake w i = of_made time_and_key saved w (Contains-permutation wakes (map time_and_key saved) w (IsPermutation-sym (map time_and_key saved) wakes by.all_wakes) i)

  pub to_wake : (v : SavedWake) → Contains saved v → Contains wakes (time_and_key v)
  to_wake v i = Contains-permutation (map time_and_key saved) wakes (time_and_key v) by.all_wakes (made_of time_and_key saved v i)

  -- the times of all
  pub times_are : (u : ℕ) → Contains (map (λ w. w.0) wakes) u ↔ Contains (map (λ w. w.time) saved) u
  times_are u = (
    (λ i.
        let w = of_made (λ (x : ℕ × ℕ). x.0) wakes u i in
        let v = of_wake w.0 w.1 in
        subst (Contains (map (λ (x : SavedWake). x.time) saved)) (ap (λ (x : ℕ × ℕ). x.0) v.2 ∙ w.2) (made_of (λ (x : SavedWake). x.time) saved v.0 v.1)),
    (λ i.
        let v = of_made (λ (x : SavedWake). x.time) saved u i in
        subst (Contains (map (λ (x : ℕ × ℕ). x.0) wakes)) v.2 (made_of (λ (x : ℕ × ℕ). x.0) wakes (time_and_key v.0) (to_wake v.0 v.1))),
  )

  -- later stages have none
  pub none_later : (j b : ℕ) → j ≢ 0 → AreWakesOf o j b []
  none_later j b other = record {
    are = λ u k. ((λ i. let l : i.0 < 0 = i.1 in absurd (omega arith)), (λ h. absurd (other (first_wake (record { stage = j; key = k; time = u }) h.0))));
    ascend = λ i l d lt m. absurd (omega arith);
  }

  module _ (b : ℕ) where
    abbrev own : List (ℕ × ℕ)
    own = filter (wakes_in o.bins b) wakes

    same_wake : (v : SavedWake) (u k : ℕ) → v.stage ≡ 0 → time_and_key v ≡ (u, k) → v ≡ record { stage = 0; key = k; time = u }
    same_wake v u k e f =
        let a : v ≡ record { stage = 0; key = v.key; time = v.time } = ap (λ (n : ℕ). record v { stage = n }) e in
        a ∙ ap (λ (x : ℕ × ℕ). record { stage = 0; key = x.1; time = x.0 }) f

    -- those of a bin of the first stage
    pub wakes_are : AreWakesOf o 0 b own
    wakes_are = record {
      are = λ u k. (
        (λ i.
            let v = of_wake (u, k) (was_there (wakes_in o.bins b) wakes (u, k) i) in (
              subst (Contains saved) (same_wake v.0 u k (first_wake v.0 v.1) v.2) v.1,
              eqb-true (bin_of_key k o.bins) b (has_passed (wakes_in o.bins b) wakes (u, k) i),
            )),
        (λ h. stays (wakes_in o.bins b) wakes (u, k) (to_wake (record { stage = 0; key = k; time = u }) h.0) (eq-eqb (bin_of_key k o.bins) b h.1)),
      );
      ascend = λ i l d lt m.
          let passed = filter_passes (wakes_in o.bins b) wakes in
          let v = get_or own i d in
          let w = get_or own l d in
          let bin_v = eqb-true (bin_of_key v.1 o.bins) b (passed i d (omega arith)) in
          let bin_w = eqb-true (bin_of_key w.1 o.bins) b (passed l d m) in
          then_second _ _ _ _ _ _ (AllPairs-filter (λ (x y : ℕ × ℕ). triple_cmp (rank_of_wake o.bins x) (rank_of_wake o.bins y) ≡ Less) (wakes_in o.bins b) wakes rise i l d lt m) (bin_v ∙ sym bin_w);
    }
