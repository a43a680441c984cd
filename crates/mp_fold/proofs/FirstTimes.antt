-- The first time of records and of posted times.
use Rattle.std.proofs.Common.{◌≡◌, ◌<◌, ◌≤◌, ◌⊎◌, ℕ, min, Bool, true, false, nat_lt, List, All, Some, None, refl, sym, subst, inl, inr, arith}
use Rattle.std.specs.List.{slice_get}
use Rattle.std.specs.List.Sorted.{IsNonDecreasing, IsNonDecreasingBy}
use Rattle.std.proofs.lemmas.Bool.{ltb-false, ltb-true}
use Rattle.std.proofs.lemmas.List.Elements.{All-nil}
use Rattle.mp_model.specs.declared.record.Rec.{Rec}
use Rattle.mp_fold.proofs.Cuts.{begins, first_is_least, nothing_first}
use Rattle.mp_fold.specs.Order.{BeginsAt, IsFirstTime}

module _ (recs : List Rec) (posted : List ℕ) (by_time : IsNonDecreasingBy (λ (r : Rec). r.time) recs) (r : Rec) (first : slice_get recs 0 ≡ Some r) where
  -- of both
  pub first_of_both : IsNonDecreasing posted → (p : ℕ) → slice_get posted 0 ≡ Some p → (t : ℕ) → t ≡ min r.time p → IsFirstTime recs posted t
  first_of_both up p e t is = record {
    of_records = first_is_least (λ (s : Rec). s.time) r recs first by_time t (omega arith);
    of_posts = first_is_least (λ (u : ℕ). u) p posted e up t (omega arith);
    first = by (nat_lt p r.time) refl;
  }
    where
      by : (b : Bool) → nat_lt p r.time ≡ b → BeginsAt (λ (s : Rec). s.time) recs t ⊎ BeginsAt (λ (u : ℕ). u) posted t
      by true l =
          let low : p < r.time = ltb-true p r.time l in
          let same : p ≡ t = omega arith in
          inr (subst (BeginsAt (λ (u : ℕ). u) posted) same (begins (λ (u : ℕ). u) p posted e))
      by false l =
          let low : r.time ≤ p = ltb-false p r.time l in
          let same : r.time ≡ t = omega arith in
          inl (subst (BeginsAt (λ (s : Rec). s.time) recs) same (begins (λ (s : Rec). s.time) r recs first))

  -- of records alone
  pub first_of_records : slice_get posted 0 ≡ None → IsFirstTime recs posted r.time
  first_of_records e = record {
    of_records = first_is_least (λ (s : Rec). s.time) r recs first by_time r.time (omega arith);
    of_posts = subst (All (λ u. r.time ≤ u)) (sym (nothing_first posted e)) (All-nil (λ (u : ℕ). r.time ≤ u));
    first = inl (begins (λ (s : Rec). s.time) r recs first);
  }
