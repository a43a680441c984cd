-- Whether a group has a record, by the first record that doesn't come before it.
use Rattle.std.proofs.Common.{◌≡◌, ◌<◌, ◌⊎◌, ◌==◌, ◌&&◌, ◌||◌, ℕ, Bool, true, false, None, Some, List, [], ◌∷◌, nat_lt, refl, sym, ◌∙◌, subst, inl, inr, ⊎_elim, arith}
use Rattle.std.specs.Prelude.{All}
use Rattle.std.specs.List.{list_any}
use Rattle.std.proofs.lemmas.Bool.{false≢true, and_from, and_parts, both_ways, cases_Bool, eq-eqb, eqb-true, false_from_ne_true, lt-ltb, ltb-true, or_cases, or_left, or_right}
use Rattle.std.proofs.lemmas.List.Elements.{All-weaker}
use Rattle.std.proofs.lemmas.List.Folds.{list_any_none}
use Rattle.mp_names.specs.Names.{is_before}
use Rattle.mp_model.specs.declared.record.Rec.{Rec}
use Rattle.mp_ordered.specs.InOrder.{IsInOrder, first_from}
use Rattle.mp_ordered.proofs.Placing.{pairs_head, pairs_tail}
use Rattle.mp_host_laws.specs.Hosted.{group_rank, is_of}

-- lists of numbers by their first two

first_less : (t T : ℕ) (xs ys : List ℕ) → t < T → is_before (t ∷ xs) (T ∷ ys) ≡ true
first_less t T xs ys l = or_left (nat_lt t T) (t == T && is_before xs ys) (lt-ltb t T l)

second_less : (t T k K : ℕ) (xs ys : List ℕ) → t ≡ T → k < K → is_before (t ∷ k ∷ xs) (T ∷ K ∷ ys) ≡ true
second_less t T k K xs ys e l = or_right (nat_lt t T) (t == T && is_before (k ∷ xs) (K ∷ ys)) (and_from (t == T) (is_before (k ∷ xs) (K ∷ ys)) (eq-eqb t T e) (first_less k K xs ys l))

-- no list comes before zeros that is as long
none_below : (a : ℕ) (xs ys : List ℕ) → (is_before xs ys ≡ true → ⊥) → is_before (a ∷ xs) (0 ∷ ys) ≡ true → ⊥
none_below a xs ys rest h =
    ⊎_elim (λ (e : nat_lt a 0 ≡ true). let l : a < 0 = ltb-true a 0 e in omega (arith, l)) (λ (e : (a == 0 && is_before xs ys) ≡ true). rest (and_parts (a == 0) (is_before xs ys) e).1)
    (or_cases (nat_lt a 0) (a == 0 && is_before xs ys) h)

no_less : (a b : ℕ) → is_before (a ∷ b ∷ []) (0 ∷ 0 ∷ []) ≡ true → ⊥
no_less a b = none_below a (b ∷ []) (0 ∷ []) (none_below b [] [] (λ e. false≢true e))

came : (t T k K a b : ℕ) → is_before (t ∷ k ∷ a ∷ b ∷ []) (T ∷ K ∷ 0 ∷ 0 ∷ []) ≡ true → (t < T) ⊎ ((t ≡ T) × (k < K))
came t T k K a b h =
    let low : Bool = is_before (a ∷ b ∷ []) (0 ∷ 0 ∷ []) in
    let later : Bool = nat_lt k K || (k == K && low) in
    ⊎_elim (λ (e : nat_lt t T ≡ true). inl (ltb-true t T e))
    (λ (e : (t == T && later) ≡ true).
    let p = and_parts (t == T) later e in
    ⊎_elim (λ (f : nat_lt k K ≡ true). inr (eqb-true t T p.0, ltb-true k K f)) (λ (f : (k == K && low) ≡ true). absurd (no_less a b (and_parts (k == K) low f).1)) (or_cases (nat_lt k K) (k == K && low) p.1))
    (or_cases (nat_lt t T) (t == T && later) h)

-- the record is of the group
of_both : (T K : ℕ) (r : Rec) → is_of T K r ≡ true → (r.time ≡ T) × (r.key ≡ K)
of_both T K r e = let p = and_parts (r.time == T) (r.key == K) e in (eqb-true r.time T p.0, eqb-true r.key K p.1)

both_of : (T K : ℕ) (r : Rec) → r.time ≡ T → r.key ≡ K → is_of T K r ≡ true
both_of T K r e f = and_from (r.time == T) (r.key == K) (eq-eqb r.time T e) (eq-eqb r.key K f)

abbrev pub limit : ℕ → ℕ → List ℕ
limit T K = T ∷ K ∷ 0 ∷ 0 ∷ []

-- a record before the group isn't of it
not_before : (T K : ℕ) (r : Rec) → is_before (group_rank r) (limit T K) ≡ true → is_of T K r ≡ false
not_before T K r h =
    false_from_ne_true (is_of T K r)
    (λ e. let p = of_both T K r e in
    ⊎_elim (λ (l : r.time < T). omega (arith, l, p.0)) (λ (l : (r.time ≡ T) × (r.key < K)). omega (arith, l.1, p.1)) (came r.time T r.key K r.tag.0 r.tag.1 h))

-- where the first record that doesn't come before the group isn't of it, no later one is
not_after : (T K : ℕ) (r s : Rec) → is_before (group_rank r) (limit T K) ≡ false → is_before (group_rank s) (group_rank r) ≡ false → is_of T K r ≡ false → is_of T K s ≡ false
not_after T K r s from order none =
    false_from_ne_true (is_of T K s)
    (λ e.
    let p = of_both T K s e in
    let R : List ℕ = r.tag.0 ∷ r.tag.1 ∷ [] in
    let S : List ℕ = s.tag.0 ∷ s.tag.1 ∷ [] in
    let not_earlier : r.time < T → ⊥ = λ l. both_ways _ from (first_less r.time T (r.key ∷ R) (K ∷ 0 ∷ 0 ∷ []) l) in
    let not_later : s.time < r.time → ⊥ = λ l. both_ways _ order (first_less s.time r.time (s.key ∷ S) (r.key ∷ R) l) in
    let time : r.time ≡ T = omega (arith, not_earlier, not_later, p.0) in
    let not_less : r.key < K → ⊥ = λ l. both_ways _ from (second_less r.time T r.key K R (0 ∷ 0 ∷ []) time l) in
    let not_more : s.key < r.key → ⊥ = λ l. both_ways _ order (second_less s.time r.time s.key r.key S R (p.0 ∙ sym time) l) in
    let key : r.key ≡ K = omega (arith, not_less, not_more, p.1) in
    both_ways (is_of T K r) none (both_of T K r time key))

module _ (T K : ℕ) (x : Rec) (is : group_rank x ≡ limit T K) where
  -- where all come before the group there is none
  pub none_found : (rs : List Rec) → first_from group_rank x rs ≡ None → list_any (is_of T K) rs ≡ false
  none_found [] h = refl
  none_found (r ∷ rs) h =
      ⊎_elim
      (λ (e : is_before (group_rank r) (group_rank x) ≡ true).
      let rest : first_from group_rank x rs ≡ None = rw e at h in
      rw (not_before T K r (subst (λ l. is_before (group_rank r) l ≡ true) is e)) (none_found rs rest))
      (λ (e : is_before (group_rank r) (group_rank x) ≡ false). let bad : Some r ≡ None = rw e at h in absurd (cc))
      (cases_Bool (is_before (group_rank r) (group_rank x)))

  -- else the first that doesn't come before the group tells
  pub found_tells : (rs : List Rec) (y : Rec) → IsInOrder group_rank rs → first_from group_rank x rs ≡ Some y → is_of T K y ≡ list_any (is_of T K) rs
  found_tells [] y order h = absurd (cc)
  found_tells (r ∷ rs) y order h =
      ⊎_elim
      (λ (e : is_before (group_rank r) (group_rank x) ≡ true).
      let rest : first_from group_rank x rs ≡ Some y = rw e at h in
      rw (not_before T K r (subst (λ l. is_before (group_rank r) l ≡ true) is e)) (found_tells rs y (pairs_tail (λ a b. is_before (group_rank b) (group_rank a) ≡ false) r rs order) rest))
      (λ (e : is_before (group_rank r) (group_rank x) ≡ false).
      let same : Some r ≡ Some y = rw e at h in
      let first : r ≡ y = cc in
      subst (λ (z : Rec). is_of T K z ≡ list_any (is_of T K) (r ∷ rs)) first (tells r rs (subst (λ l. is_before (group_rank r) l ≡ false) is e) (pairs_head (λ a b. is_before (group_rank b) (group_rank a) ≡ false) r rs order)))
      (cases_Bool (is_before (group_rank r) (group_rank x)))
    where
      tells : (r : Rec) (rs : List Rec) → is_before (group_rank r) (limit T K) ≡ false → All (λ s. is_before (group_rank s) (group_rank r) ≡ false) rs → is_of T K r ≡ list_any (is_of T K) (r ∷ rs)
      tells r rs from behind =
          ⊎_elim
          (λ (e : is_of T K r ≡ true). e ∙ sym (or_left (is_of T K r) (list_any (is_of T K) rs) e))
          (λ (e : is_of T K r ≡ false).
          let none = list_any_none (is_of T K) rs (All-weaker (λ s. is_before (group_rank s) (group_rank r) ≡ false) (λ s. is_of T K s ≡ false) (λ s k. not_after T K r s from k e) rs behind) in
          rw (e, none) refl)
          (cases_Bool (is_of T K r))
