-- What a stable sort by key and time gives.
use Rattle.std.proofs.Common.{◌≡◌, ◌≤◌, ◌+◌, ◌==◌, ◌&&◌, ℕ, Bool, true, false, not, List, All, IsPermutation, filter, sym, ◌∙◌, get_or, arith}
use Rattle.std.specs.List.Sorted.{IsSortedBy, IsSortedByKey, IsStableBy, IsStableByKey, ties}
use Rattle.std.specs.Fn.{Called, ComputesKey}
use denote.Param.Members.{Mut}
use denote.Ref.{Bor}
use Rattle.std.specs.Cmp.{IsStrictWeakOrder, IsTotalOrder}
use Rattle.std.specs.Ordering.{is_lt, nat_cmp, ordering_then}
use Rattle.std.specs.declared.cmp.Ordering.{Ordering}
use Rattle.std.proofs.lemmas.Bool.{eqb-true}
use Rattle.std.proofs.lemmas.Cmp.{nat_cmp_total, on_total, then_total}
use Rattle.std.proofs.lemmas.Fn.{always_returns_same}
use Rattle.std.proofs.lemmas.List.Elements.{filter_agree, filter_passes}
use Rattle.std.proofs.lemmas.List.Kept.{IsSortedBy-filter}
use Rattle.std.proofs.lemmas.List.Sorted.{IsNonDecreasingBy-from_all_adjacent, ranks_by}
use Rattle.mp_model.specs.declared.record.Rec.{Rec}
use Rattle.mp_model.specs.declared.value.Value.TheVariants.{Count}
use Rattle.mp_model.specs.Folds.{at_time, of_key}
use Rattle.mp_fold.proofs.Numbers.{kept_twice}
use Rattle.mp_fold.specs.Order.{AreInOrder}

-- by the first number, and then by the second
abbrev pub pair_cmp : ℕ × ℕ → ℕ × ℕ → Ordering
pair_cmp p q = ordering_then (nat_cmp p.0 q.0) (nat_cmp p.1 q.1)

abbrev pub place_of : Rec → ℕ × ℕ
place_of r = (r.key, r.time)

abbrev pub is_before : Rec → Rec → Bool
is_before r s = is_lt (pair_cmp (place_of r) (place_of s))

pair_cmp-total : IsTotalOrder pair_cmp
pair_cmp-total = then_total (on_total (λ (p : ℕ × ℕ). p.0) nat_cmp_total) (on_total (λ (p : ℕ × ℕ). p.1) nat_cmp_total)

ranks : IsStrictWeakOrder is_before
ranks = ranks_by pair_cmp-total place_of

tied : (k t a b : ℕ) → (not (is_lt (pair_cmp (k, t) (a, b))) && not (is_lt (pair_cmp (a, b) (k, t)))) ≡ ((a == k) && (b == t))
tied k t a b = grind arith

key_rises : (a b c d : ℕ) → is_lt (pair_cmp (c, d) (a, b)) ≡ false → a ≤ c
key_rises a b c d h = grind arith

time_rises : (a b c d : ℕ) → a ≡ c → is_lt (pair_cmp (c, d) (a, b)) ≡ false → b ≤ d
time_rises a b c d e h = grind arith

module _ (recs sorted : List Rec) (moved : IsPermutation recs sorted) (up : IsSortedBy is_before sorted) (stable : IsStableBy is_before recs sorted) where
  -- a record of this key and time
  sample : ℕ → ℕ → Rec
  sample k t = record { time = t; key = k; tag = record { 0 = 0; 1 = 0 }; value = Count 0 0 }

  tied_with : (k t : ℕ) (rs : List Rec) → filter (ties is_before (sample k t)) rs ≡ at_time t (of_key k rs)
  unfolding sample
  tied_with k t rs =
      filter_agree (ties is_before (sample k t)) (λ (r : Rec). (r.key == k) && (r.time == t)) (λ r. tied k t r.key r.time) rs
      ∙ sym (kept_twice (λ (r : Rec). r.time == t) (λ (r : Rec). r.key == k) rs)

  of_one_key : (k : ℕ) → All (λ (r : Rec). (r.key == k) ≡ true) (of_key k sorted)
  of_one_key k = filter_passes (λ (r : Rec). r.key == k) sorted

  pub sorted_stably : AreInOrder recs sorted
  sorted_stably = record {
    same = moved;
    kept = λ k t. sym (tied_with k t sorted) ∙ stable (sample k t) ∙ tied_with k t recs;
    by_key = IsNonDecreasingBy-from_all_adjacent (λ (r : Rec). r.key) sorted (λ i d low. key_rises (get_or sorted i d).key (get_or sorted i d).time (get_or sorted (i + 1) d).key (get_or sorted (i + 1) d).time (up i d (omega arith) low));
    by_time = λ k.
        let own = of_key k sorted in
        let rises : IsSortedBy is_before own = IsSortedBy-filter is_before ranks (λ (r : Rec). r.key == k) sorted up in
        IsNonDecreasingBy-from_all_adjacent (λ (r : Rec). r.time) own
        (λ i d low.
        time_rises (get_or own i d).key (get_or own i d).time (get_or own (i + 1) d).key (get_or own (i + 1) d).time
        (eqb-true (get_or own i d).key k (of_one_key k i d (omega arith)) ∙ sym (eqb-true (get_or own (i + 1) d).key k (of_one_key k (i + 1) d low)))
        (rises i d (omega arith) low));
  }

-- what the clauses of `sort_by_key` give
pub sorted_by_place : {F : Type 0} {g : Mut F (Bor Rec × Unit {0}) (ℕ × ℕ)} {f : F} (recs sorted : List Rec) → IsPermutation recs sorted
    → ((key : Rec → ℕ × ℕ) → ComputesKey g key f → IsSortedByKey key pair_cmp sorted) → ((key : Rec → ℕ × ℕ) → ComputesKey g key f → IsStableByKey key pair_cmp recs sorted)
    → ((a : Bor Rec × Unit {0}) (r : ℕ × ℕ) (f' : F) → Called g f a r f' → (r ≡ place_of a.0.now) × (f' ≡ f)) → AreInOrder recs sorted
sorted_by_place {g = g} {f = f} recs sorted moved up stable calls =
    let computes : ComputesKey g place_of f = always_returns_same g (λ a r. r ≡ place_of a.0.now) f calls in
    sorted_stably recs sorted moved (up place_of computes) (stable place_of computes)
