-- The order of packets, by time and then by bin.
use Rattle.std.proofs.Common.{◌≡◌, ◌<◌, ◌≤◌, ◌⊎◌, ◌==◌, ◌&&◌, ℕ, nat_lt, true, [], ◌∷◌, Option, Some, None, refl, inl, inr, ⊎_elim, arith}
use Rattle.std.proofs.lemmas.Bool.{and_from, and_parts, cases_lt, eq-eqb, eqb-true, lt-ltb, ltb-true, or_cases, or_left, or_right}
use Rattle.mp_names.specs.declared.names.Name.TheVariants.{Packet}
use Rattle.mp_names.specs.declared.pointstamps.TimedBin.{TimedBin}
use Rattle.mp_names.specs.Names.{IsBefore, Less}
use Rattle.mp_bins.specs.Leaving.{IsAfter, bin_at}
use Rattle.mp_handoff.specs.MoversState.{is_after}

-- what the test says

pub after_is : (last : Option TimedBin) (t b : ℕ) → is_after last t b ≡ true → IsAfter last t b
after_is None t b h = tt
after_is (Some p) t b h =
    ⊎_elim
    (λ (e : nat_lt p.time t ≡ true). inl (ltb-true p.time t e))
    (λ (e : (p.time == t && nat_lt p.bin b) ≡ true). let k = and_parts (p.time == t) (nat_lt p.bin b) e in inr (eqb-true p.time t k.0, ltb-true p.bin b k.1))
    (or_cases (nat_lt p.time t) (p.time == t && nat_lt p.bin b) h)

pub after_from : (last : Option TimedBin) (t b : ℕ) → IsAfter last t b → is_after last t b ≡ true
after_from None t b h = refl
after_from (Some p) t b h =
    ⊎_elim
    (λ (e : p.time < t). or_left (nat_lt p.time t) (p.time == t && nat_lt p.bin b) (lt-ltb p.time t e))
    (λ (e : (p.time ≡ t) × (p.bin < b)). or_right (nat_lt p.time t) (p.time == t && nat_lt p.bin b) (and_from (p.time == t) (nat_lt p.bin b) (eq-eqb p.time t e.0) (lt-ltb p.bin b e.1)))
    h

-- it is an order

pub no_later : (s a t b : ℕ) → (IsAfter (Some (bin_at s a)) t b → ⊥) → t ≤ s
no_later s a t b n = ⊎_elim (λ (l : s < t). absurd (n (inl l))) (λ (l : t ≤ s). l) (cases_lt s t)

pub never_itself : (t b : ℕ) → IsAfter (Some (bin_at t b)) t b → ⊥
never_itself t b h = ⊎_elim (λ (l : t < t). omega arith) (λ (e : (t ≡ t) × (b < b)). let l = e.1 in omega arith) h

joined : (p q s a t b : ℕ) → (p < s) ⊎ ((p ≡ s) × (q < a)) → (s < t) ⊎ ((s ≡ t) × (a < b)) → (p < t) ⊎ ((p ≡ t) × (q < b))
joined p q s a t b h k = grind arith

pub after_trans : (last : Option TimedBin) (s a t b : ℕ) → IsAfter last s a → IsAfter (Some (bin_at s a)) t b → IsAfter last t b
after_trans None s a t b h k = tt
after_trans (Some p) s a t b h k = joined p.time p.bin s a t b h k

-- of two places they are one, or one comes after the other
pub after_connected : (s a t b : ℕ) → ((s ≡ t) × (a ≡ b)) ⊎ (IsAfter (Some (bin_at s a)) t b ⊎ IsAfter (Some (bin_at t b)) s a)
after_connected s a t b = grind arith

-- as names

pub less_after : (j s a t b : ℕ) → Less (Packet j a s) (Packet j b t) → IsAfter (Some (bin_at s a)) t b
less_after j s a t b h = ⊎_elim (λ (e : 2 < 2). absurd (omega arith)) (λ (e : (2 ≡ 2) × IsBefore (s ∷ j ∷ a ∷ []) (t ∷ j ∷ b ∷ [])). by_time e.1) h
  where
    by_bin : IsBefore (a ∷ []) (b ∷ []) → a < b
    by_bin h = ⊎_elim (λ (e : a < b). e) (λ (e : (a ≡ b) × ⊥). absurd e.1) h

    by_stage : IsBefore (j ∷ a ∷ []) (j ∷ b ∷ []) → a < b
    by_stage h = ⊎_elim (λ (e : j < j). absurd (omega arith)) (λ (e : (j ≡ j) × IsBefore (a ∷ []) (b ∷ [])). by_bin e.1) h

    by_time : IsBefore (s ∷ j ∷ a ∷ []) (t ∷ j ∷ b ∷ []) → (s < t) ⊎ ((s ≡ t) × (a < b))
    by_time h = ⊎_elim (λ (e : s < t). inl e) (λ (e : (s ≡ t) × IsBefore (j ∷ a ∷ []) (j ∷ b ∷ [])). inr (e.0, by_stage e.1)) h

pub after_less : (j s a t b : ℕ) → IsAfter (Some (bin_at s a)) t b → Less (Packet j a s) (Packet j b t)
after_less j s a t b h = inr (refl, ⊎_elim (λ (e : s < t). inl e) (λ (e : (s ≡ t) × (a < b)). inr (e.0, inr (refl, inl e.1))) h)
