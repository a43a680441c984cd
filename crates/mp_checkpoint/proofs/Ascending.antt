-- Items that stand and ascend, as far as a loop has come.
use Rattle.std.proofs.Common.{◌≡◌, ◌⊎◌, ◌<◌, ◌+◌, ◌-◌, ℕ, List, inl, inr, length, slice_index_or, sym, ◌∙◌, subst, ⊎_elim, arith}
use Rattle.std.proofs.lemmas.List.{get_or_default}
use Rattle.mp_model.specs.Facts.{SavedWake}
use Rattle.mp_model.specs.QueryLaws.{WakeIsBefore}
use Rattle.mp_opening.specs.declared.checkpoint.KeyCell.{KeyCell}
use Rattle.mp_opening.specs.Checkpoints.{KeyIsBefore}

module _ {X : Type 0} (P : X → Type 0) (R : X → X → Type 0) (xs : List X) where
  -- the first n of them are such, and each stands in front of the later ones
  pub record FirstFit (n : ℕ) : Type 0 where
    pub stand : (k : ℕ) (d : X) → k < n → P (slice_index_or xs k d)
    pub ascend : (j k : ℕ) (d : X) → j < k → k < n → R (slice_index_or xs j d) (slice_index_or xs k d)

  pub none_fit : FirstFit 0
  none_fit = record { stand = λ k d l. absurd (omega (arith, l)); ascend = λ j k d l m. absurd (omega (arith, m)) }

  split : (k n : ℕ) → k < n + 1 → (k < n) ⊎ (k ≡ n)
  split k n l = grind arith

  -- one more
  pub one_fits : ((x y z : X) → R x y → R y z → R x z) → (n m : ℕ) → m ≡ n + 1 → FirstFit n → ((d : X) → P (slice_index_or xs n d)) → (0 < n → (d : X) → R (slice_index_or xs (n - 1) d) (slice_index_or xs n d)) → FirstFit m
  one_fits trans n m more first stands behind = record { stand = all; ascend = pairs }
    where
      all : (k : ℕ) (d : X) → k < m → P (slice_index_or xs k d)
      all k d l = ⊎_elim (λ (a : k < n). first.stand k d a) (λ (e : k ≡ n). subst (λ (i : ℕ). P (slice_index_or xs i d)) (sym e) (stands d)) (split k n (omega (arith, l, more)))

      last : (j : ℕ) (d : X) → j < n → R (slice_index_or xs j d) (slice_index_or xs n d)
      last j d l =
          ⊎_elim
          (λ (a : j < n - 1). trans (slice_index_or xs j d) (slice_index_or xs (n - 1) d) (slice_index_or xs n d) (first.ascend j (n - 1) d a (omega (arith, l))) (behind (omega (arith, l)) d))
          (λ (e : j ≡ n - 1). subst (λ (i : ℕ). R (slice_index_or xs i d) (slice_index_or xs n d)) (sym e) (behind (omega (arith, l)) d))
          (split j (n - 1) (omega (arith, l)))

      pairs : (j k : ℕ) (d : X) → j < k → k < m → R (slice_index_or xs j d) (slice_index_or xs k d)
      pairs j k d l h = ⊎_elim (λ (a : k < n). first.ascend j k d l a) (λ (e : k ≡ n). subst (λ (i : ℕ). R (slice_index_or xs j d) (slice_index_or xs i d)) (sym e) (last j d (omega (arith, l, e)))) (split k n (omega (arith, h, more)))

pub keys_rise : {Cell : Type 0} (a b c : KeyCell Cell) → KeyIsBefore a b → KeyIsBefore b c → KeyIsBefore a c
keys_rise a b c (inl h) (inl k) = inl (omega arith)
keys_rise a b c (inl h) (inr k) = inl (omega arith)
keys_rise a b c (inr h) (inl k) = inl (omega arith)
keys_rise a b c (inr h) (inr k) = inr (h.0 ∙ k.0, omega arith)

later : (a b c : SavedWake) → (a.key < b.key) ⊎ ((a.key ≡ b.key) × (a.time < b.time)) → (b.key < c.key) ⊎ ((b.key ≡ c.key) × (b.time < c.time)) → (a.key < c.key) ⊎ ((a.key ≡ c.key) × (a.time < c.time))
later a b c (inl h) (inl k) = inl (omega arith)
later a b c (inl h) (inr k) = inl (omega arith)
later a b c (inr h) (inl k) = inl (omega arith)
later a b c (inr h) (inr k) = inr (h.0 ∙ k.0, omega arith)

pub wakes_rise : (a b c : SavedWake) → WakeIsBefore a b → WakeIsBefore b c → WakeIsBefore a c
wakes_rise a b c (inl h) (inl k) = inl (omega arith)
wakes_rise a b c (inl h) (inr k) = inl (omega arith)
wakes_rise a b c (inr h) (inl k) = inl (omega arith)
wakes_rise a b c (inr h) (inr k) = inr (h.0 ∙ k.0, later a b c h.1 k.1)

module _ {X : Type 0} (xs : List X) where
  -- the item at a place
  here : (i : ℕ) (x d : X) → i < length xs → x ≡ slice_index_or xs i x → slice_index_or xs i d ≡ x
  here i x d low e = get_or_default xs i d x low ∙ sym e

  pub at_place : (P : X → Type 0) (i : ℕ) (x : X) → i < length xs → x ≡ slice_index_or xs i x → P x → (d : X) → P (slice_index_or xs i d)
  at_place P i x low e h d = subst P (sym (here i x d low e)) h

  pub pair_at : (R : X → X → Type 0) (i j : ℕ) (x y : X) → i < length xs → j < length xs → x ≡ slice_index_or xs i x → y ≡ slice_index_or xs j y → R x y → (d : X) → R (slice_index_or xs i d) (slice_index_or xs j d)
  pair_at R i j x y low high e f h d = subst (λ (v : X). R v (slice_index_or xs j d)) (sym (here i x d low e)) (subst (λ (v : X). R x v) (sym (here j y d high f)) h)
