-- Wakes that are put into a set one after the other: which there are.
use Rattle.std.proofs.Common.{◌≡◌, ◌↔◌, ℕ, ◌+◌, ◌<◌, ◌≤◌, true, List, [], Contains, get_or, length, take, sym, ap, subst, inl, inr, ⊎_elim}
use Rattle.std.proofs.lemmas.List.{take_all}
use Rattle.mp_postdated.proofs.Ordered.{Finds, has_in}
use Rattle.mp_postdated.proofs.Several.{longer}
use Rattle.mp_postdated.specs.Wakes.{Has, IsWake}

module _ (ws : List (ℕ × ℕ)) where
  -- the set has the first i wakes
  abbrev pub HasFirst : ℕ → List (ℕ × ℕ) → Type 0
  HasFirst i live = (t k : ℕ) → Has live t k ↔ Has (take i ws) t k

  pub none_filled : (live : List (ℕ × ℕ)) → live ≡ [] → HasFirst 0 live
  none_filled live e t k = rw e ((λ h. h), (λ h. h))

  pub one_filled : (i : ℕ) (old new : List (ℕ × ℕ)) → i < length ws → HasFirst i old → Finds true (get_or ws i (0, 0)).0 (get_or ws i (0, 0)).1 old new → HasFirst (i + 1) new
  one_filled i old new l first finds t k =
      let w = get_or ws i (0, 0) in
      let more = longer ws i (0, 0) (t, k) l in
      let one = has_in w.0 w.1 old new finds t k in (
        (λ h.
            more.1
            (⊎_elim
            (λ (there : Has old t k). inl ((first t k).0 there))
            (λ (same : IsWake w.0 w.1 (t, k)). inr (λ i. (sym same.0 i, sym same.1 i)))
            (one.0 h))),
        (λ h.
            one.1
            (⊎_elim
            (λ (there : Contains (take i ws) (t, k)). inl ((first t k).1 there))
            (λ (same : w ≡ (t, k)). inr (ap (λ (v : ℕ × ℕ). v.0) (sym same), ap (λ (v : ℕ × ℕ). v.1) (sym same)))
            (more.0 h))),
      )

  pub all_filled : (i : ℕ) (live : List (ℕ × ℕ)) → length ws ≤ i → HasFirst i live → (t k : ℕ) → Has live t k ↔ Has ws t k
  all_filled i live l first t k = subst (λ (vs : List (ℕ × ℕ)). Has live t k ↔ Has vs t k) (take_all i ws l) (first t k)
