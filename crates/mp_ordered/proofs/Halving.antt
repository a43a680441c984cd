-- What a look at one item tells of how many stand in front of a cut.
use Rattle.std.proofs.Common.{◌≡◌, ℕ, suc, ◌+◌, ◌<◌, ◌≤◌, Bool, true, false, List, [], ◌∷◌, get_or, length, refl, ap, sym, ◌∙◌, ⊎_elim, arith}
use Rattle.std.specs.List.{insert, prefix_len}
use Rattle.std.specs.List.Sorted.{IsPartitionedBy}
use Rattle.std.proofs.lemmas.Bool.{both_ways, cases_Bool, cases_lt}
use Rattle.std.proofs.lemmas.List.Sums.{prefix_len_passes, prefix_len_stops}
use Rattle.mp_names.specs.Names.{is_before}
use Rattle.mp_ordered.specs.InOrder.{put_in_order}

module _ {T : Type 0} (p : T → Bool) (xs : List T) (k : ℕ) (x : T) where
  -- one in front stands there with all before it
  pub count_past : IsPartitionedBy p xs → k < length xs → x ≡ get_or xs k x → p x ≡ true → k < prefix_len p xs
  count_past h l is e =
      ⊎_elim
      (λ (low : k < prefix_len p xs). low)
      (λ (high : prefix_len p xs ≤ k).
      let here : p (get_or xs k x) ≡ true = ap p (sym is) ∙ e in
      absurd (both_ways (p (get_or xs (prefix_len p xs) x)) (prefix_len_stops p xs x (omega (arith, high, l))) (h (prefix_len p xs) k x high l here)))
      (cases_lt k (prefix_len p xs))

  -- before one behind there are no more
  pub count_upto : x ≡ get_or xs k x → p x ≡ false → prefix_len p xs ≤ k
  count_upto is e =
      ⊎_elim
      (λ (low : k < prefix_len p xs).
      let here : p (get_or xs k x) ≡ false = ap p (sym is) ∙ e in
      absurd (both_ways (p (get_or xs k x)) here (prefix_len_passes p xs k x low)))
      (λ (high : prefix_len p xs ≤ k). high)
      (cases_lt k (prefix_len p xs))

-- an item's place is behind those that come before it
pub put_at_count : {T : Type 0} (rank : T → List ℕ) (x : T) (ys : List T) → insert ys (prefix_len (λ y. is_before (rank y) (rank x)) ys) x ≡ put_in_order rank x ys
put_at_count rank x [] = refl
put_at_count rank x (y ∷ ys) =
    ⊎_elim
    (λ (e : is_before (rank y) (rank x) ≡ true). rw e (next (prefix_len (λ z. is_before (rank z) (rank x)) ys) ∙ ap (λ zs. y ∷ zs) (put_at_count rank x ys)))
    (λ (e : is_before (rank y) (rank x) ≡ false). rw e refl)
    (cases_Bool (is_before (rank y) (rank x)))
  where
    next : (n : ℕ) → insert (y ∷ ys) (1 + n) x ≡ y ∷ insert ys n x
    next n = let e : 1 + n ≡ suc n = omega arith in ap (λ i. insert (y ∷ ys) i x) e
