-- What is sorted, and has no two elements that compare as equal, rises strictly.
use Rattle.std.proofs.Common.{◌≡◌, ◌⊎◌, ℕ, ◌<◌, ◌==◌, Bool, true, false, cond, nat_lt, List, AllPairs, get_or, refl, sym, ap, ◌∙◌, inl, inr, ⊎_elim, arith}
use Rattle.std.proofs.lemmas.Bool.{eqb-true, false_from_ne_true, false≢true, ltb-true}
use Rattle.std.proofs.lemmas.Cmp.{eq_by_cmp_equiv, nat_cmp_total, on_total, then_total}
use Rattle.std.proofs.lemmas.List.Sorted.{ranks_by, sorted_far}
use Rattle.std.proofs.lemmas.Map.Keys.{IsDistinct-IsPermutation, IsDistinct-from_apart, apart_from_distinct}
use Rattle.std.specs.Cmp.{IsTotalOrder}
use Rattle.std.specs.List.{IsDistinct}
use Rattle.std.specs.List.Sorted.{IsPermutation, IsSortedByKey}
use Rattle.std.specs.Ordering.{eq_by_cmp, is_eq, is_lt, nat_cmp, ordering_reverse, ordering_then}
use Rattle.std.specs.declared.cmp.Ordering.{Ordering}
use Rattle.std.specs.declared.cmp.Ordering.TheVariants.{Less, Equal, Greater}
use Rattle.mp_model.specs.Facts.{SavedWake}
use Rattle.mp_model.specs.QueryLaws.{WakeIsBefore}
use Rattle.mp_outline.proofs.Pairs.{AllPairs-Pairs, Pairs, Pairs-weaker}
use Rattle.mp_opening.specs.declared.checkpoint.KeyCell.{KeyCell}
use Rattle.mp_opening.specs.Checkpoints.{KeyIsBefore}
use Rattle.mp_collect.specs.Gathered.{pair_cmp, place_of_cell, place_of_wake, triple_cmp}

module _ {K : Type 0} {R : K → K → Ordering} (o : IsTotalOrder R) {X : Type 0} (key : X → K) where
  -- the two have one place
  abbrev pub tie : X → X → Bool
  tie x y = eq_by_cmp R (key x) (key y)

  -- neither equal nor the other way round
  less_from : (x y : X) → tie x y ≡ false → is_lt (R (key y) (key x)) ≡ false → R (key x) (key y) ≡ Less
  less_from x y apart not_back = pick (R (key x) (key y)) refl apart
    where
      pick : (r : Ordering) → R (key x) (key y) ≡ r → tie x y ≡ false → R (key x) (key y) ≡ Less
      pick Less e f = e
      pick Equal e f = absurd (false≢true (sym f ∙ ap is_eq e))
      pick Greater e f = absurd (false≢true (sym not_back ∙ ap is_lt (o.antisymm (key y) (key x) ∙ ap ordering_reverse e)))

  pub sorted_rises : (first sorted : List X) → IsPermutation first sorted → IsSortedByKey key R sorted → Pairs (λ x y. tie x y ≡ false) first → AllPairs (λ x y. R (key x) (key y) ≡ Less) sorted
  sorted_rises first sorted moved up apart i j d l m =
      let once : IsDistinct tie first = IsDistinct-from_apart tie first (λ i j d l m. AllPairs-Pairs (λ x y. tie x y ≡ false) first apart i j d l m) in
      less_from (get_or sorted i d) (get_or sorted j d)
      (apart_from_distinct tie sorted i j d (IsDistinct-IsPermutation tie (λ x y. (eq_by_cmp_equiv o).symm (key x) (key y)) first sorted moved once) l m)
      (sorted_far (λ x y. is_lt (R (key x) (key y))) (ranks_by o key) sorted up i j d (omega arith) m)

-- Pairs and triples of numbers

pair_total : IsTotalOrder pair_cmp
pair_total = then_total (on_total (λ (p : ℕ × ℕ). p.0) nat_cmp_total) (on_total (λ (p : ℕ × ℕ). p.1) nat_cmp_total)

triple_total : IsTotalOrder triple_cmp
triple_total = then_total (then_total (on_total (λ (p : ℕ × ℕ × ℕ). p.0) nat_cmp_total) (on_total (λ (p : ℕ × ℕ × ℕ). p.1) nat_cmp_total)) (on_total (λ (p : ℕ × ℕ × ℕ). p.2) nat_cmp_total)

-- a number compares as less, or it is equal and the rest decides
two : (x y : ℕ) (o : Ordering) → ordering_then (nat_cmp x y) o ≡ Less → (x < y) ⊎ ((x ≡ y) × (o ≡ Less))
two x y o = by (nat_lt x y) (x == y) (λ l. ltb-true x y l) (λ e. eqb-true x y e)
  where
    by : (l e : Bool) → (l ≡ true → x < y) → (e ≡ true → x ≡ y) → ordering_then (cond l Less (cond e Equal Greater)) o ≡ Less → (x < y) ⊎ ((x ≡ y) × (o ≡ Less))
    by true e f g h = inl (f refl)
    by false true f g h = inr (g refl, h)
    by false false f g h = absurd (cc)

one : (x y : ℕ) → nat_cmp x y ≡ Less → x < y
one x y e = grind arith

regroup : (a b c : Ordering) → ordering_then (ordering_then a b) c ≡ ordering_then a (ordering_then b c)
regroup Less b c = refl
regroup Equal b c = refl
regroup Greater b c = refl

module _ {Cell : Type 0} where
  cell_before : (r s : KeyCell Cell) → pair_cmp (place_of_cell r) (place_of_cell s) ≡ Less → KeyIsBefore r s
  cell_before r s h =
      ⊎_elim
      (λ (l : r.stage < s.stage). inl l)
      (λ (e : (r.stage ≡ s.stage) × (nat_cmp r.key s.key ≡ Less)). inr (e.0, one r.key s.key e.1))
      (two r.stage s.stage (nat_cmp r.key s.key) h)

  -- two cells of one stage and key have one place
  cell_tie : (r s : KeyCell Cell) → tie pair_total place_of_cell r s ≡ true → (r.stage ≡ s.stage) × (r.key ≡ s.key)
  cell_tie r s h = grind arith

  -- sorted cells of which no two are of one stage and key ascend
  pub cells_rise : (first sorted : List (KeyCell Cell)) → IsPermutation first sorted → IsSortedByKey place_of_cell pair_cmp sorted → Pairs (λ r s. r.stage ≡ s.stage → r.key ≡ s.key → ⊥) first → AllPairs KeyIsBefore sorted
  cells_rise first sorted moved up apart i j d l m =
      cell_before (get_or sorted i d) (get_or sorted j d)
      (sorted_rises pair_total place_of_cell first sorted moved up (Pairs-weaker (λ r s. r.stage ≡ s.stage → r.key ≡ s.key → ⊥) (λ r s. tie pair_total place_of_cell r s ≡ false) (λ r s h. false_from_ne_true (tie pair_total place_of_cell r s) (λ e. let t = cell_tie r s e in h t.0 t.1)) first apart) i j d l m)

wake_before : (v w : SavedWake) → triple_cmp (place_of_wake v) (place_of_wake w) ≡ Less → WakeIsBefore v w
wake_before v w h =
    ⊎_elim
    (λ (l : v.stage < w.stage). inl l)
    (λ (e : (v.stage ≡ w.stage) × (ordering_then (nat_cmp v.key w.key) (nat_cmp v.time w.time) ≡ Less)).
    inr (
      e.0,
      ⊎_elim
          (λ (l : v.key < w.key). inl l)
          (λ (f : (v.key ≡ w.key) × (nat_cmp v.time w.time ≡ Less)). inr (f.0, one v.time w.time f.1))
          (two v.key w.key (nat_cmp v.time w.time) e.1),
    ))
    (two v.stage w.stage (ordering_then (nat_cmp v.key w.key) (nat_cmp v.time w.time)) (sym (regroup (nat_cmp v.stage w.stage) (nat_cmp v.key w.key) (nat_cmp v.time w.time)) ∙ h))

wake_tie : (v w : SavedWake) → tie triple_total place_of_wake v w ≡ true → (v.stage ≡ w.stage) × (v.key ≡ w.key) × (v.time ≡ w.time)
wake_tie v w h = grind arith

-- sorted wakes of which none stands twice ascend
pub wakes_rise : (first sorted : List SavedWake) → IsPermutation first sorted → IsSortedByKey place_of_wake triple_cmp sorted → Pairs (λ v w. v.stage ≡ w.stage → v.key ≡ w.key → v.time ≡ w.time → ⊥) first → AllPairs WakeIsBefore sorted
wakes_rise first sorted moved up apart i j d l m =
    wake_before (get_or sorted i d) (get_or sorted j d)
    (sorted_rises triple_total place_of_wake first sorted moved up (Pairs-weaker (λ v w. v.stage ≡ w.stage → v.key ≡ w.key → v.time ≡ w.time → ⊥) (λ v w. tie triple_total place_of_wake v w ≡ false) (λ v w h. false_from_ne_true (tie triple_total place_of_wake v w) (λ e. let t = wake_tie v w e in h t.0 t.1 t.2)) first apart) i j d l m)
