-- The first count other than 0, the first of others that isn't quiet, and where counts other than 0 stand.
use Rattle.std.proofs.Common.{◌≡◌, ◌≢◌, ◌⊎◌, ℕ, ◌+◌, ◌<◌, ◌≤◌, Bool, true, false, not, List, length, set, replicate, min, max, ℤ, pos, refl, sym, ap, ◌∙◌, subst, arith, inl, inr, ⊎_elim}
use Rattle.std.specs.Ordering.{int_eq}
use Rattle.std.proofs.lemmas.Bool.{cases_Bool, cases_eq, cases_lt, true≢false}
use Rattle.std.proofs.lemmas.Bool.Decides.{Decides-int_eq}
use Rattle.std.proofs.lemmas.List.{get_or_past, get_or-replicate, length-replicate, get_or-set_other, length-set}
use Rattle.mp_stamps.specs.Rows.{IsFirst, IsFirstBut, IsFirstOpen, IsSpan, IsSpanBut, IsZeroAt, is_outstanding}

pub zero_is_zero : (z : ℤ) → z ≡ pos 0 → int_eq z (pos 0) ≡ true
zero_is_zero z e = rw e refl

pub is_zero : (z : ℤ) → int_eq z (pos 0) ≡ true → z ≡ pos 0
is_zero z e = grind (arith, Decides-int_eq)

pub not_zero : (z : ℤ) → int_eq z (pos 0) ≡ false → z ≢ pos 0
not_zero z e = grind (arith, Decides-int_eq)

-- whether a count is other than 0
pub is_open : (z : ℤ) (b : Bool) → b ≡ is_outstanding z → b ≡ true → z ≢ pos 0
is_open z b e f g = true≢false (sym f ∙ e ∙ ap not (zero_is_zero z g))

pub is_closed : (z : ℤ) (b : Bool) → b ≡ is_outstanding z → b ≡ false → z ≡ pos 0
is_closed z b e f =
    ⊎_elim
    (λ (g : int_eq z (pos 0) ≡ true). is_zero z g)
    (λ (g : int_eq z (pos 0) ≡ false). absurd (true≢false (sym (ap not g) ∙ sym e ∙ f)))
    (cases_Bool (int_eq z (pos 0)))

-- there is only one first count other than 0
pub first_open_once : (counts : List ℤ) (a b : ℕ) → IsFirstOpen counts a → IsFirstOpen counts b → a ≡ b
first_open_once counts a b h k =
    ⊎_elim
    (λ (l : a < b). absurd (h.open_there (omega (arith, l, k.within)) (k.quiet a l)))
    (λ (l : b ≤ a). ⊎_elim (λ (m : b < a). absurd (k.open_there (omega (arith, m, h.within)) (h.quiet b m))) (λ (m : a ≤ b). omega (arith, l, m)) (cases_lt b a))
    (cases_lt a b)

-- which one is the first, after one changed

module _ (P : ℕ → Type 0) (number first i : ℕ) (h : IsFirstBut P number first i) where
  pub lesser_first : (least : ℕ) → i < number → (P i → ⊥) → ((least ≡ first) × (first < i)) ⊎ ((least ≡ i) × (i ≤ first)) → IsFirst P number least
  lesser_first least l n =
      ⊎_elim
      (λ (p : (least ≡ first) × (first < i)). record {
        within = omega (arith, h.within, p.0);
        quiet = λ k m. h.quiet k (omega (arith, p.0, m)) (λ e. absurd (omega (arith, p.0, p.1, m, e)));
        open_there = λ m. subst (λ (k : ℕ). P k → ⊥) (sym p.0) (h.open_there (omega (arith, p.1, l)) (λ e. absurd (omega (arith, p.1, e))));
      })
      (λ (p : (least ≡ i) × (i ≤ first)). record {
        within = omega (arith, p.0, l);
        quiet = λ k m. h.quiet k (omega (arith, p.0, p.1, m)) (λ e. absurd (omega (arith, p.0, m, e)));
        open_there = λ m. subst (λ (k : ℕ). P k → ⊥) (sym p.0) n;
      })

  pub same_first : P i → (i ≡ first → ⊥) → IsFirst P number first
  same_first z n = record {
    within = h.within;
    quiet = λ k l. ⊎_elim (λ (e : k ≡ i). subst P (sym e) z) (λ (m : k ≢ i). h.quiet k l m) (cases_eq k i);
    open_there = λ l. h.open_there l (λ e. n (sym e));
  }

  pub quiet_to : P i → i ≡ first → (k : ℕ) → k < first + 1 → P k
  quiet_to z e k l = ⊎_elim (λ (f : k ≡ i). subst P (sym f) z) (λ (m : k ≢ i). h.quiet k (omega (arith, e, m, l)) m) (cases_eq k i)

-- Where counts other than 0 stand

-- nowhere, where each is 0
pub span_none : (counts : List ℤ) → ((k : ℕ) → IsZeroAt counts k) → IsSpan counts (length counts) 0
span_none counts zero = record {
  first_open = record { within = omega arith; quiet = λ k l. zero k; open_there = λ l. absurd (omega (arith, l)) };
  within = omega arith;
  rest = λ k l. zero k;
}

pub zero_there : (n k : ℕ) → IsZeroAt (replicate n (pos 0)) k
zero_there n k =
    ⊎_elim
    (λ (l : k < n). get_or-replicate n k (pos 0) (pos 0) l)
    (λ (l : n ≤ k). get_or_past (replicate n (pos 0)) k (pos 0) (omega (arith, l, length-replicate n (pos 0))))
    (cases_lt k n)

pub zeros_span : (n : ℕ) → IsSpan (replicate n (pos 0)) n 0
zeros_span n = subst (λ (m : ℕ). IsSpan (replicate n (pos 0)) m 0) (length-replicate n (pos 0)) (span_none (replicate n (pos 0)) (zero_there n))

-- another count at an index
pub span_changed : (counts : List ℤ) (first end i : ℕ) (v : ℤ) → IsSpan counts first end → IsSpanBut (set counts i v) first end i
span_changed counts first end i v h = record {
  first_but = record {
    within = omega (arith, h.first_open.within, length-set counts i v);
    quiet = λ k l n. get_or-set_other counts i k v (pos 0) n ∙ h.first_open.quiet k l;
    open_there = λ l n e. h.first_open.open_there (omega (arith, l, length-set counts i v)) (sym (get_or-set_other counts i first v (pos 0) n) ∙ e);
  };
  within = omega (arith, h.within, length-set counts i v);
  rest_but = λ k l n. get_or-set_other counts i k v (pos 0) n ∙ h.rest k l;
}

module _ (counts : List ℤ) (first end i : ℕ) (h : IsSpanBut counts first end i) where
  -- one that is other than 0
  pub span_opened : (least last : ℕ) → i < length counts → (IsZeroAt counts i → ⊥) → least ≡ min first i → last ≡ max end (i + 1) → IsSpan counts least last
  span_opened least last l n e f = record {
    first_open = lesser_first (IsZeroAt counts) (length counts) first i h.first_but least l n
        (⊎_elim (λ (m : first < i). inl ((omega (arith, e, m)), m)) (λ (m : i ≤ first). inr ((omega (arith, e, m)), m)) (cases_lt first i));
    within = omega (arith, h.within, l, f);
    rest = λ k m. h.rest_but k (omega (arith, f, m)) (λ g. absurd (omega (arith, f, m, g)));
  }

  -- one that is 0
  pub rest_closed : IsZeroAt counts i → (k : ℕ) → end ≤ k → IsZeroAt counts k
  rest_closed z k l = ⊎_elim (λ (e : k ≡ i). subst (IsZeroAt counts) (sym e) z) (λ (n : k ≢ i). h.rest_but k l n) (cases_eq k i)

  pub span_closed : IsZeroAt counts i → (i ≡ first → ⊥) → IsSpan counts first end
  span_closed z n = record {
    first_open = same_first (IsZeroAt counts) (length counts) first i h.first_but z n;
    within = h.within;
    rest = λ k l. rest_closed z k l;
  }
