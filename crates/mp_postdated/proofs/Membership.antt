-- Which wakes there are: in a list, with one more, and without one.
use Rattle.std.proofs.Common.{◌≡◌, ◌↔◌, ◌⊎◌, ℕ, ◌==◌, ◌&&◌, Bool, true, false, not, ◌||◌, List, IsTrue, refl, sym, ap, ◌∙◌, inl, inr, arith}
use Rattle.std.proofs.lemmas.Bool.{and_from, and_parts, both_ways, eq-eqb, eqb-true, false_from_ne_true, not-true, not_from_false, or_cases, or_left, or_right}
use Rattle.std.proofs.lemmas.Cmp.{nat_cmp_total, on_total, then_total}
use Rattle.std.proofs.lemmas.List.Elements.{filter_agree}
use Rattle.std.proofs.lemmas.Map.Lookups.{CmpEqualImpliesEq, exact_pairs, exact_unsigned}
use Rattle.std.proofs.lemmas.Map.Views.{any-filter_same, btree_set_contains_iff, tells_apart}
use Rattle.std.specs.Cmp.{IsTotalOrder}
use Rattle.std.specs.List.{list_any}
use Rattle.std.specs.Ordering.{eq_by_cmp, is_eq, nat_cmp, ordering_then}
use Rattle.std.specs.Set.{remove_key}
use Rattle.std.specs.declared.cmp.Ordering.{Ordering}
use Rattle.std.specs.declared.cmp.Ordering.TheVariants.{Less, Equal, Greater}
use Rattle.mp_postdated.proofs.Lists.{any-insert_key, remove_key-is_filter}
use Rattle.mp_postdated.specs.Wakes.{Has, IsAscending, IsWake, wake_cmp, with_wake, without_wake}

-- the order of wakes is total
pub wake_cmp-total : IsTotalOrder wake_cmp
wake_cmp-total = then_total (on_total (λ (w : ℕ × ℕ). w.0) nat_cmp_total) (on_total (λ (w : ℕ × ℕ). w.1) nat_cmp_total)

-- and it tells two wakes apart
pub wake_cmp-exact : CmpEqualImpliesEq wake_cmp
wake_cmp-exact = exact_pairs nat_cmp nat_cmp exact_unsigned exact_unsigned

-- the search for a wake finds it just where it is there
pub has-by_search : (ws : List (ℕ × ℕ)) (t k : ℕ) → IsTrue (list_any (eq_by_cmp wake_cmp (t, k)) ws) ↔ Has ws t k
has-by_search ws t k = btree_set_contains_iff wake_cmp-total wake_cmp-exact (record { keys = ws }) (t, k)

equal_then : (r s : Ordering) → is_eq (ordering_then r s) ≡ (is_eq r && is_eq s)
equal_then Less s = refl
equal_then Equal s = refl
equal_then Greater s = refl

equal_numbers : (t u : ℕ) → is_eq (nat_cmp t u) ≡ (u == t)
equal_numbers t u = grind arith

pub same_wake : (t k : ℕ) (w : ℕ × ℕ) → eq_by_cmp wake_cmp (t, k) w ≡ (w.0 == t && w.1 == k)
same_wake t k w = rw (equal_then (nat_cmp t w.0) (nat_cmp k w.1), equal_numbers t w.0, equal_numbers k w.1) refl

pub same_bool : (a b : Bool) → (a ≡ true → b ≡ true) → (b ≡ true → a ≡ true) → a ≡ b
same_bool true b to from = sym (to refl)
same_bool false true to from = from refl
same_bool false false to from = refl

-- the removal of a wake leaves the others
pub remove_key-is_without_wake : (ws : List (ℕ × ℕ)) (t k : ℕ) → IsAscending ws → remove_key (eq_by_cmp wake_cmp (t, k)) ws ≡ without_wake ws t k
remove_key-is_without_wake ws t k s = remove_key-is_filter wake_cmp-total (t, k) ws s ∙ filter_agree _ _ (λ w. ap not (same_wake t k w)) ws

-- with one more wake there are the old ones and this one
pub has-with_wake : (ws : List (ℕ × ℕ)) (t k s j : ℕ) → Has (with_wake ws t k) s j ↔ (Has ws s j ⊎ IsWake t k (s, j))
has-with_wake ws t k s j =
    let found : list_any (eq_by_cmp wake_cmp (s, j)) (with_wake ws t k) ≡ (eq_by_cmp wake_cmp (s, j) (t, k) || list_any (eq_by_cmp wake_cmp (s, j)) ws) = any-insert_key wake_cmp-total (s, j) (t, k) ws in (
      (λ (h : Has (with_wake ws t k) s j).
          elim (or_cases _ _ (sym found ∙ (has-by_search (with_wake ws t k) s j).1 h)) [
            | inl e ↦ let same : (s, j) ≡ (t, k) = tells_apart wake_cmp-exact (s, j) (t, k) e in inr (ap (λ (w : ℕ × ℕ). w.0) same, ap (λ (w : ℕ × ℕ). w.1) same)
            | inr e ↦ inl ((has-by_search ws s j).0 e)
          ]),
      (λ (h : Has ws s j ⊎ IsWake t k (s, j)).
          elim h [
            | inl there ↦ (has-by_search (with_wake ws t k) s j).0 (found ∙ or_right _ _ ((has-by_search ws s j).1 there))
            | inr same ↦ (has-by_search (with_wake ws t k) s j).0 (found ∙ or_left _ _ (same_wake s j (t, k) ∙ and_from _ _ (eq-eqb t s (sym same.0)) (eq-eqb k j (sym same.1))))
          ]),
    )

-- without a wake there are the others
pub has-without_wake : (ws : List (ℕ × ℕ)) (t k s j : ℕ) → Has (without_wake ws t k) s j ↔ (Has ws s j × (IsWake t k (s, j) → ⊥))
has-without_wake ws t k s j =
    let stays : ℕ × ℕ → Bool = λ w. not (w.0 == t && w.1 == k) in
    let found : list_any (eq_by_cmp wake_cmp (s, j)) (without_wake ws t k) ≡ (stays (s, j) && list_any (eq_by_cmp wake_cmp (s, j)) ws) = any-filter_same (eq_by_cmp wake_cmp (s, j)) stays (stays (s, j)) (λ w e. ap stays (sym (tells_apart wake_cmp-exact (s, j) w e))) ws in (
      (λ (h : Has (without_wake ws t k) s j).
          let both : (stays (s, j) ≡ true) × (list_any (eq_by_cmp wake_cmp (s, j)) ws ≡ true) = and_parts _ _ (sym found ∙ (has-by_search (without_wake ws t k) s j).1 h) in (
            (has-by_search ws s j).0 both.1,
            (λ (same : IsWake t k (s, j)). both_ways (s == t && j == k) (not-true _ both.0) (and_from _ _ (eq-eqb s t same.0) (eq-eqb j k same.1))),
          )),
      (λ (h : Has ws s j × (IsWake t k (s, j) → ⊥)).
          let other : (s == t && j == k) ≡ false = false_from_ne_true _ (λ (e : (s == t && j == k) ≡ true). let both : ((s == t) ≡ true) × ((j == k) ≡ true) = and_parts _ _ e in h.1 (eqb-true s t both.0, eqb-true j k both.1)) in
          (has-by_search (without_wake ws t k) s j).0 (found ∙ and_from _ _ (not_from_false _ other) ((has-by_search ws s j).1 h.0))),
    )
