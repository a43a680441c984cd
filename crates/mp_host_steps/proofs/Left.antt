-- The wakes of a bin: those that it begins with, and those that a group leaves.
use Rattle.std.proofs.Common.{◌≡◌, ◌↔◌, ◌⊎◌, ◌<◌, ◌∙◌, ◌==◌, ◌+◌, ◌++◌, ℕ, false, true, not, List, [], ◌∷◌, Contains, ap, arith, get_or, inl, inr, length, subst, sym, take, ⊎_elim}
use Rattle.std.proofs.lemmas.Bool.{eqb-true, false≢true, not-false, or_parts}
use Rattle.std.proofs.lemmas.List.{take_more}
use Rattle.std.proofs.lemmas.List.Elements.{Contains-append_left, Contains-push, Contains-push_cases}
use Rattle.mp_model.specs.Entry.{Entry}
use Rattle.mp_postdated.proofs.Several.{same_wakes}
use Rattle.mp_postdated.specs.Wakes.{Has, IsAmongWakes, IsAscending, IsWake}
use Rattle.mp_host_steps.specs.Changes.{changes_wakes}

-- the wakes that are added, with one more
pub one_due : (due : List (ℕ × ℕ)) (i : ℕ) (t k : ℕ) (old new : List (ℕ × ℕ)) → i < length due → get_or due i (t, k) ≡ (t, k)
    → ((u l : ℕ) → Has old u l ↔ Contains (take i due) (u, l)) → ((u l : ℕ) → Has new u l ↔ (Has old u l ⊎ IsWake t k (u, l)))
    → (u l : ℕ) → Has new u l ↔ Contains (take (i + 1) due) (u, l)
one_due due i t k old new inside is were exact u l = (to, from)
  where
    more : take (i + 1) due ≡ take i due ++ (t, k) ∷ []
    more = take_more due i (t, k) inside ∙ ap (λ (w : ℕ × ℕ). take i due ++ w ∷ []) is

    same : IsWake t k (u, l) → ◌≡◌ {A = ℕ × ℕ} (t, k) (u, l)
    same e = cc

    to : Has new u l → Contains (take (i + 1) due) (u, l)
    to h =
        subst (λ (ws : List (ℕ × ℕ)). Contains ws (u, l)) (sym more)
        (⊎_elim
        (λ (o : Has old u l). Contains-append_left (take i due) ((t, k) ∷ []) (u, l) ((were u l).0 o))
        (λ (e : IsWake t k (u, l)). subst (λ (w : ℕ × ℕ). Contains (take i due ++ (t, k) ∷ []) w) (same e) (Contains-push (take i due) (t, k)))
        ((exact u l).0 h))

    from : Contains (take (i + 1) due) (u, l) → Has new u l
    from h =
        (exact u l).1
        (⊎_elim
        (λ (o : Contains (take i due) (u, l)). inl ((were u l).1 o))
        (λ (e : ◌≡◌ {A = ℕ × ℕ} (t, k) (u, l)). inr (sym (ap (λ (w : ℕ × ℕ). w.0) e), sym (ap (λ (w : ℕ × ℕ). w.1) e)))
        (Contains-push_cases (take i due) (t, k) (u, l) (subst (λ (ws : List (ℕ × ℕ)). Contains ws (u, l)) more h)))

-- where a group has no wake, there are the others
pub none_taken : (ws : List (ℕ × ℕ)) (t k : ℕ) → (Has ws t k → ⊥) → (u l : ℕ) → Has ws u l ↔ (Has ws u l × (IsWake t k (u, l) → ⊥))
none_taken ws t k none u l = ((λ i. (i, λ is. none (subst (λ (n : ℕ). Has ws n k) is.0 (subst (λ (m : ℕ). Has ws u m) is.1 i)))), (λ both. both.0))

module _ (ws : List (ℕ × ℕ)) (t k : ℕ) (posts : List ℕ) where
  -- with the group's own taken out and its posts added there are the others and the posts
  pub wakes_applied : (mid new : List (ℕ × ℕ))
      → ((u l : ℕ) → Has mid u l ↔ (Has ws u l × (IsWake t k (u, l) → ⊥)))
      → ((u l : ℕ) → Has new u l ↔ (Has mid u l ⊎ IsAmongWakes posts k (u, l)))
      → (u l : ℕ) → Has new u l ↔ ((Has ws u l × (IsWake t k (u, l) → ⊥)) ⊎ ((l ≡ k) × Contains posts u))
  wakes_applied mid new taken added u l = (
    (λ i. ⊎_elim (λ (old : Has mid u l). inl ((taken u l).0 old)) (λ (among : IsAmongWakes posts k (u, l)). inr (among.1, among.0)) ((added u l).0 i)),
    (λ either.
        (added u l).1
        (⊎_elim
        (λ (old : Has ws u l × (IsWake t k (u, l) → ⊥)). inl ((taken u l).1 old))
        (λ (post : (l ≡ k) × Contains posts u). inr (post.1, post.0))
        either)),
  )

-- a group that changes none leaves the same
pub wakes_stay : (ws vs : List (ℕ × ℕ)) (e : Entry) (posts : List ℕ) → IsAscending ws → IsAscending vs → (Has ws e.time e.key → e.woken ≡ true)
    → ((u l : ℕ) → Has vs u l ↔ ((Has ws u l × (IsWake e.time e.key (u, l) → ⊥)) ⊎ ((l ≡ e.key) × Contains posts u)))
    → changes_wakes e posts ≡ false → vs ≡ ws
wakes_stay ws vs e posts a b woken exact idle =
    let both = or_parts e.woken (not (length posts == 0)) idle in
    let none : length posts ≡ 0 = eqb-true (length posts) 0 (not-false (length posts == 0) both.1) in
    same_wakes vs ws b a
    (λ u l i.
    ⊎_elim
    (λ (old : Has ws u l × (IsWake e.time e.key (u, l) → ⊥)). old.0)
    (λ (post : (l ≡ e.key) × Contains posts u). let few : post.1.0 < length posts = post.1.1 in absurd (omega arith))
    ((exact u l).0 i))
    (λ u l i. (exact u l).1 (inl ((none_taken ws e.time e.key (λ there. false≢true (sym both.0 ∙ woken there)) u l).0 i)))
