-- Pairs and triples of numbers in order; what is sorted, and has no two elements of one rank, rises strictly.
use Rattle.std.proofs.Common.{◌≡◌, ◌⊎◌, ℕ, ◌<◌, ◌==◌, Bool, true, false, List, AllPairs, get_or, refl, sym, ap, ◌∙◌, arith}
use Rattle.std.proofs.lemmas.Bool.{false≢true}
use Rattle.std.proofs.lemmas.Cmp.{eq_by_cmp_equiv, nat_cmp_total, on_total, then_total}
use Rattle.std.proofs.lemmas.List.Sorted.{ranks_by, sorted_far}
use Rattle.std.proofs.lemmas.Map.Keys.{IsDistinct-IsPermutation, IsDistinct-from_apart, apart_from_distinct}
use Rattle.std.specs.Cmp.{IsTotalOrder}
use Rattle.std.specs.List.{IsDistinct}
use Rattle.std.specs.List.Sorted.{IsPermutation, IsSortedByKey}
use Rattle.std.specs.Ordering.{eq_by_cmp, is_eq, is_lt, nat_cmp, ordering_reverse, ordering_then}
use Rattle.std.specs.declared.cmp.Ordering.{Ordering}
use Rattle.std.specs.declared.cmp.Ordering.TheVariants.{Less, Equal, Greater}
use Rattle.mp_opening.specs.declared.places.CellPlace.{CellPlace}
use Rattle.mp_opening.specs.ByBin.{is_of_bin, pair_cmp, rank_of_place, triple_cmp}

pub pair_total : IsTotalOrder pair_cmp
pair_total = then_total (on_total (λ (p : ℕ × ℕ). p.0) nat_cmp_total) (on_total (λ (p : ℕ × ℕ). p.1) nat_cmp_total)

pub triple_total : IsTotalOrder triple_cmp
triple_total = then_total (then_total (on_total (λ (p : ℕ × ℕ × ℕ). p.0) nat_cmp_total) (on_total (λ (p : ℕ × ℕ × ℕ). p.1) nat_cmp_total)) (on_total (λ (p : ℕ × ℕ × ℕ). p.2) nat_cmp_total)

-- a place is of the bin of the stage where they are its rank
pub is_of_rank : (j b : ℕ) (p : CellPlace) → is_eq (pair_cmp (rank_of_place p) (j, b)) ≡ is_of_bin j b p
is_of_rank j b p = grind arith

pub is_number : (x b : ℕ) → is_eq (nat_cmp x b) ≡ (x == b)
is_number x b = grind arith

module _ {K : Type 0} {R : K → K → Ordering} (o : IsTotalOrder R) {X : Type 0} (key : X → K) where
  -- the two have one rank
  abbrev pub tie : X → X → Bool
  tie x y = eq_by_cmp R (key x) (key y)

  -- neither equal nor the other way round
  less_from : (x y : X) → tie x y ≡ false → is_lt (R (key y) (key x)) ≡ false → R (key x) (key y) ≡ Less
  less_from x y apart not_back = pick (R (key x) (key y)) refl apart
    where
      pick : (r : Ordering) → R (key x) (key y) ≡ r → tie x y ≡ false → R (key x) (key y) ≡ Less
      pick Less e f = e
      pick Equal e f = absurd (false≢true (sym f ∙ ap is_eq e))
      pick Greater e f = absurd (false≢true (sym not_back ∙ ap is_lt (o.antisymm (key y) (key x) ∙ ap ordering_reverse e)))

  pub sorted_rises : (first sorted : List X) → IsPermutation first sorted → IsSortedByKey key R sorted → AllPairs (λ x y. tie x y ≡ false) first → AllPairs (λ x y. R (key x) (key y) ≡ Less) sorted
  sorted_rises first sorted moved up apart i j d l m =
      let once : IsDistinct tie first = IsDistinct-from_apart tie first apart in
      less_from (get_or sorted i d) (get_or sorted j d)
      (apart_from_distinct tie sorted i j d (IsDistinct-IsPermutation tie (λ x y. (eq_by_cmp_equiv o).symm (key x) (key y)) first sorted moved once) l m)
      (sorted_far (λ x y. is_lt (R (key x) (key y))) (ranks_by o key) sorted up i j d (omega arith) m)

-- where the first of three numbers are equal, the others decide
pub then_second : (a b c e f g : ℕ) → triple_cmp (a, b, c) (e, f, g) ≡ Less → a ≡ e → (b < f) ⊎ ((b ≡ f) × (c < g))
then_second a b c e f g h same = grind arith

-- triples of one rank are equal
pub all_equal : (a b c e f g : ℕ) → is_eq (triple_cmp (a, b, c) (e, f, g)) ≡ true → (b ≡ f) × (c ≡ g)
all_equal a b c e f g h = grind arith

-- where triples are sorted, their first numbers are
pub first_sorted : (r s t : Ordering) → is_lt (ordering_then (ordering_then r s) t) ≡ false → is_lt r ≡ false
first_sorted Less s t h = h
first_sorted Equal s t h = refl
first_sorted Greater s t h = refl
