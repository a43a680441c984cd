-- The wakes of a list, each once, ascending: which there are, and that there are as many where each stands once.
use Rattle.std.proofs.Common.{◌≡◌, ◌↔◌, ◌⊎◌, ℕ, ◌==◌, Bool, true, false, cond, not, nat_eq, ◌&&◌, ◌||◌, IsTrue, List, [], ◌∷◌, length, IsPermutation, refl, sym, ap, ◌∙◌, subst, ◌<◌, inl, inr, arith}
use Rattle.std.proofs.lemmas.Bool.{false≢true}
use Rattle.std.proofs.lemmas.List.Kept.{IsStrictlySortedBy-filter}
use Rattle.std.proofs.lemmas.List.Sorted.{Contains-permutation, IsPermutation-cons, IsPermutation-refl, IsPermutation-sym, IsPermutation-trans}
use Rattle.std.proofs.lemmas.Map.Keys.{IsDistinct-head, IsDistinct-tail}
use Rattle.std.specs.List.{AllByRecursion, IsDistinct, list_any}
use Rattle.std.specs.List.Sorted.{IsStrictlySortedBy}
use Rattle.std.specs.Ordering.{eq_by_cmp}
use Rattle.mp_postdated.proofs.Lists.{any-insert_key, ascend-insert_key, permuted-insert_key}
use Rattle.mp_postdated.proofs.Membership.{has-by_search, has-with_wake, has-without_wake, same_wake, wake_cmp-total}
use Rattle.mp_postdated.proofs.Several.{same_wakes}
use Rattle.mp_postdated.specs.Wakes.{Has, IsAscending, IsWake, ordered, wake_cmp, with_wake, without_wake}

pub ordered-ascends : (ws : List (ℕ × ℕ)) → IsAscending (ordered ws)
unfolding IsStrictlySortedBy
ordered-ascends [] = tt
ordered-ascends (w ∷ ws) = ascend-insert_key wake_cmp-total w (ordered ws) (ordered-ascends ws)

any-ordered : (q : ℕ × ℕ) (ws : List (ℕ × ℕ)) → list_any (eq_by_cmp wake_cmp q) (ordered ws) ≡ list_any (eq_by_cmp wake_cmp q) ws
any-ordered q [] = refl
any-ordered q (w ∷ ws) = any-insert_key wake_cmp-total q w (ordered ws) ∙ ap (λ b. eq_by_cmp wake_cmp q w || b) (any-ordered q ws)

-- the same wakes are there
pub has-ordered : (ws : List (ℕ × ℕ)) (t k : ℕ) → Has (ordered ws) t k ↔ Has ws t k
has-ordered ws t k = (
  λ h. (has-by_search ws t k).0 (sym (any-ordered (t, k) ws) ∙ (has-by_search (ordered ws) t k).1 h),
  λ h. (has-by_search (ordered ws) t k).0 (any-ordered (t, k) ws ∙ (has-by_search ws t k).1 h),
)

-- ascending wakes are those of each list that has the same
pub is_ordered : (ws vs : List (ℕ × ℕ)) → IsAscending vs → ((t k : ℕ) → Has ws t k ↔ Has vs t k) → ordered ws ≡ vs
is_ordered ws vs a same =
    same_wakes (ordered ws) vs (ordered-ascends ws) a (λ t k h. (same t k).0 ((has-ordered ws t k).0 h)) (λ t k h. (has-ordered ws t k).1 ((same t k).1 h))

-- both have the same wakes
abbrev pub AreSame : List (ℕ × ℕ) → List (ℕ × ℕ) → Type 0
AreSame ws vs = (t k : ℕ) → Has vs t k ↔ Has ws t k

-- wakes in another order are the same ones
pub reordered-same : (ws vs : List (ℕ × ℕ)) → IsPermutation ws vs → AreSame ws vs
reordered-same ws vs moved t k = (λ h. Contains-permutation vs ws (t, k) (IsPermutation-sym ws vs moved) h, λ h. Contains-permutation ws vs (t, k) moved h)

-- and so are those of a set that was filled with them
pub filled-same : (ws vs us : List (ℕ × ℕ)) → IsPermutation ws vs → ((t k : ℕ) → Has us t k ↔ Has vs t k) → AreSame ws us
filled-same ws vs us moved filled t k =
    let same = reordered-same ws vs moved t k in (λ h. same.0 ((filled t k).0 h), λ h. (filled t k).1 (same.1 h))

-- the same wakes are the same list, each once and ascending
pub ordered-same : (ws vs : List (ℕ × ℕ)) → AreSame ws vs → ordered vs ≡ ordered ws
ordered-same ws vs same =
    is_ordered vs (ordered ws) (ordered-ascends ws)
    (λ t k. (λ h. (has-ordered ws t k).1 ((same t k).0 h), λ h. (same t k).1 ((has-ordered ws t k).0 h)))

module _ (eq : ℕ × ℕ → ℕ × ℕ → Bool) (exact : (v w : ℕ × ℕ) → eq v w ≡ eq_by_cmp wake_cmp v w) where
  pub none_equal : (w : ℕ × ℕ) (ws : List (ℕ × ℕ)) → AllByRecursion (λ v. eq w v ≡ false) ws → list_any (eq_by_cmp wake_cmp w) ws ≡ false
  none_equal w [] h = refl
  none_equal w (v ∷ vs) h = rw (sym (exact w v) ∙ h.0, none_equal w vs h.1) refl

  -- and as many, where each stands once
  pub ordered-permuted : (ws : List (ℕ × ℕ)) → IsDistinct eq ws → IsPermutation (ordered ws) ws
  ordered-permuted [] d = IsPermutation-refl []
  ordered-permuted (w ∷ ws) d =
      IsPermutation-sym (w ∷ ws) (ordered (w ∷ ws))
      (IsPermutation-trans (w ∷ ws) (w ∷ ordered ws) (ordered (w ∷ ws))
      (IsPermutation-cons w ws (ordered ws) (IsPermutation-sym (ordered ws) ws (ordered-permuted ws (IsDistinct-tail eq w ws d))))
      (permuted-insert_key wake_cmp-total w (ordered ws) (any-ordered w ws ∙ none_equal w ws (IsDistinct-head eq w ws d))))

-- the equality of pairs, by their parts
abbrev pub same_pair : ℕ × ℕ → ℕ × ℕ → Bool
same_pair v w = nat_eq v.0 w.0 && nat_eq v.1 w.1

same_number : (a b : ℕ) → nat_eq a b ≡ (b == a)
same_number a b = grind arith

pub same_pair-exact : (v w : ℕ × ℕ) → same_pair v w ≡ eq_by_cmp wake_cmp v w
same_pair-exact v w = (λ i. same_number v.0 w.0 i && same_number v.1 w.1 i) ∙ sym (same_wake v.0 v.1 w)

found_alike : (q : ℕ × ℕ) (ws : List (ℕ × ℕ)) → list_any (same_pair q) ws ≡ list_any (eq_by_cmp wake_cmp q) ws
found_alike q ws = λ i. list_any (λ w. same_pair-exact q w i) ws

-- a set finds a wake just where it is there
pub has_found : (ws : List (ℕ × ℕ)) (t k : ℕ) → IsTrue (list_any (same_pair (t, k)) ws) ↔ Has ws t k
has_found ws t k = rw (found_alike (t, k) ws) (has-by_search ws t k)

pub ordered_found : (ws : List (ℕ × ℕ)) (t k : ℕ) → IsTrue (list_any (same_pair (t, k)) ws) ↔ Has (ordered ws) t k
ordered_found ws t k = (
  λ e. (has-ordered ws t k).1 ((has_found ws t k).0 e),
  λ h. (has_found ws t k).1 ((has-ordered ws t k).0 h),
)

-- Finds tells which wakes are found once that of a key at a time is in, or out.
abbrev pub Finds : Bool → ℕ → ℕ → List (ℕ × ℕ) → List (ℕ × ℕ) → Type 0
Finds b t k old new = (q : ℕ × ℕ) → list_any (same_pair q) new ≡ cond (same_pair (t, k) q) b (list_any (same_pair q) old)

pub same_parts : (t k : ℕ) (q : ℕ × ℕ) → IsTrue (same_pair (t, k) q) ↔ IsWake t k q
same_parts t k q = grind arith

module _ (t k : ℕ) (old new : List (ℕ × ℕ)) where
  in_by : (s j : ℕ) (b : Bool) → same_pair (t, k) (s, j) ≡ b → list_any (same_pair (s, j)) new ≡ cond b true (list_any (same_pair (s, j)) old) → Has new s j ↔ (Has old s j ⊎ IsWake t k (s, j))
  in_by s j true e f = (λ h. inr ((same_parts t k (s, j)).0 e), λ h. (has_found new s j).0 f)
  in_by s j false e f = (
    λ h. inl ((has_found old s j).0 (sym f ∙ (has_found new s j).1 h)),
    λ h. elim h [
      | inl there ↦ (has_found new s j).0 (f ∙ (has_found old s j).1 there)
      | inr same ↦ absurd (false≢true (sym e ∙ (same_parts t k (s, j)).1 same))
    ],
  )

  -- the wakes with one more
  pub has_in : Finds true t k old new → (s j : ℕ) → Has new s j ↔ (Has old s j ⊎ IsWake t k (s, j))
  has_in f s j = in_by s j (same_pair (t, k) (s, j)) refl (f (s, j))

  pub ordered_in : Finds true t k old new → ordered new ≡ with_wake (ordered old) t k
  ordered_in f =
      is_ordered new (with_wake (ordered old) t k) (ascend-insert_key wake_cmp-total (t, k) (ordered old) (ordered-ascends old))
      (λ s j.
      let both = has-with_wake (ordered old) t k s j in (
        λ h. both.1 (elim ((has_in f s j).0 h) [ inl there ↦ inl ((has-ordered old s j).1 there) | inr same ↦ inr same ]),
        λ h. (has_in f s j).1 (elim (both.0 h) [ inl there ↦ inl ((has-ordered old s j).0 there) | inr same ↦ inr same ]),
      ))

  out_by : (s j : ℕ) (b : Bool) → same_pair (t, k) (s, j) ≡ b → list_any (same_pair (s, j)) new ≡ cond b false (list_any (same_pair (s, j)) old) → Has new s j ↔ (Has old s j × (IsWake t k (s, j) → ⊥))
  out_by s j true e f = (λ h. absurd (false≢true (sym f ∙ (has_found new s j).1 h)), λ h. absurd (h.1 ((same_parts t k (s, j)).0 e)))
  out_by s j false e f = (
    λ h. ((has_found old s j).0 (sym f ∙ (has_found new s j).1 h), λ same. false≢true (sym e ∙ (same_parts t k (s, j)).1 same)),
    λ h. (has_found new s j).0 (f ∙ (has_found old s j).1 h.0),
  )

  -- the wakes without one
  pub has_out : Finds false t k old new → (s j : ℕ) → Has new s j ↔ (Has old s j × (IsWake t k (s, j) → ⊥))
  has_out f s j = out_by s j (same_pair (t, k) (s, j)) refl (f (s, j))

  pub ordered_out : Finds false t k old new → ordered new ≡ without_wake (ordered old) t k
  ordered_out f =
      is_ordered new (without_wake (ordered old) t k) (IsStrictlySortedBy-filter wake_cmp (λ w. not (w.0 == t && w.1 == k)) (ordered old) (ordered-ascends old))
      (λ s j.
      let both = has-without_wake (ordered old) t k s j in (
        λ h. let there = (has_out f s j).0 h in both.1 ((has-ordered old s j).1 there.0, there.1),
        λ h. let there = both.0 h in (has_out f s j).1 ((has-ordered old s j).0 there.0, there.1),
      ))

-- there are none where none was found
pub ordered_none : (ws : List (ℕ × ℕ)) → length ws ≡ 0 → ordered ws ≡ []
ordered_none [] e = refl
ordered_none (w ∷ ws) e = absurd (omega arith)

pub none_ordered : (ws : List (ℕ × ℕ)) → ordered ws ≡ [] → length ws ≡ 0
none_ordered [] e = refl
none_ordered (w ∷ ws) e =
    let there : Has (ordered (w ∷ ws)) w.0 w.1 = (has-ordered (w ∷ ws) w.0 w.1).1 (0, omega arith, refl) in
    let none : Has [] w.0 w.1 = subst (λ (vs : List (ℕ × ℕ)). Has vs w.0 w.1) e there in
    let l : none.0 < 0 = none.1 in absurd (omega arith)
