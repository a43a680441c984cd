-- Wakes of one key at several times: which there are once they are added.
use Rattle.std.proofs.Common.{◌≡◌, ◌↔◌, ◌⊎◌, ℕ, ◌+◌, ◌<◌, ◌≤◌, List, [], ◌∷◌, ◌++◌, Contains, get_or, length, take, sym, subst, inl, inr, ⊎_elim, arith}
use Rattle.std.proofs.lemmas.List.{take_all, take_more}
use Rattle.std.proofs.lemmas.List.Elements.{Contains-append_left, Contains-push, Contains-push_cases}
use Rattle.std.proofs.lemmas.Map.Lookups.{btree_set_from_contains}
use Rattle.mp_postdated.proofs.Membership.{has-by_search, same_bool, wake_cmp-exact, wake_cmp-total}
use Rattle.mp_postdated.specs.Wakes.{Has, IsAmongWakes, IsAscending, IsWake}

-- ascending wakes are the same where the same are there
pub same_wakes : (vs ws : List (ℕ × ℕ)) → IsAscending vs → IsAscending ws → ((t k : ℕ) → Has vs t k → Has ws t k) → ((t k : ℕ) → Has ws t k → Has vs t k) → vs ≡ ws
same_wakes vs ws a b to from =
    btree_set_from_contains wake_cmp-total (record { keys = vs }) (record { keys = ws }) a b
    (λ q. same_bool _ _
    (λ e. (has-by_search ws q.0 q.1).1 (to q.0 q.1 ((has-by_search vs q.0 q.1).0 e)))
    (λ e. (has-by_search vs q.0 q.1).1 (from q.0 q.1 ((has-by_search ws q.0 q.1).0 e))))
    wake_cmp-exact

nothing : (t : ℕ) → Contains {X = ℕ} [] t → ⊥
nothing t h = let none : h.0 < 0 = h.1 in omega arith

-- the first items with one more
pub longer : {X : Type 0} (xs : List X) (i : ℕ) (d x : X) → i < length xs → Contains (take (i + 1) xs) x ↔ (Contains (take i xs) x ⊎ (get_or xs i d ≡ x))
longer xs i d x l =
    let one = take_more xs i d l in (
      (λ h. Contains-push_cases (take i xs) (get_or xs i d) x (subst (λ (ys : List _). Contains ys x) one h)),
      (λ h.
          subst (λ (ys : List _). Contains ys x) (sym one)
          (⊎_elim
          (λ (there : Contains (take i xs) x). Contains-append_left (take i xs) (get_or xs i d ∷ []) x there)
          (λ (same : get_or xs i d ≡ x). subst (Contains (take i xs ++ get_or xs i d ∷ [])) same (Contains-push (take i xs) (get_or xs i d)))
          h)),
    )

-- the wakes ws with those of the key at the first times are vs
pub record HasAdded (ts : List ℕ) (key i : ℕ) (ws vs : List (ℕ × ℕ)) : Type 0 where
  pub exact : (t k : ℕ) → Has vs t k ↔ (Has ws t k ⊎ IsAmongWakes (take i ts) key (t, k))
  pub ascending : IsAscending vs

module _ (ts : List ℕ) (key : ℕ) where
  pub none_added : (ws : List (ℕ × ℕ)) → IsAscending ws → HasAdded ts key 0 ws ws
  none_added ws a = record {
    exact = λ t k. ((λ h. inl h), (λ h. ⊎_elim (λ (old : Has ws t k). old) (λ (among : IsAmongWakes [] key (t, k)). absurd (nothing t among.0)) h));
    ascending = a;
  }

  pub one_added : (i : ℕ) (ws vs us : List (ℕ × ℕ)) → i < length ts → HasAdded ts key i ws vs → IsAscending us
      → ((t k : ℕ) → Has us t k ↔ (Has vs t k ⊎ IsWake (get_or ts i 0) key (t, k))) → HasAdded ts key (i + 1) ws us
  one_added i ws vs us l h a one = record {
    exact = λ t k.
        let more = longer ts i 0 t l in (
          (λ there.
              ⊎_elim
              (λ (before : Has vs t k).
              ⊎_elim (λ (old : Has ws t k). inl old) (λ (among : IsAmongWakes (take i ts) key (t, k)). inr (more.1 (inl among.0), among.1)) ((h.exact t k).0 before))
              (λ (new : IsWake (get_or ts i 0) key (t, k)). inr (more.1 (inr (sym new.0)), new.1))
              ((one t k).0 there)),
          (λ either.
              (one t k).1
              (⊎_elim
              (λ (old : Has ws t k). inl ((h.exact t k).1 (inl old)))
              (λ (among : IsAmongWakes (take (i + 1) ts) key (t, k)).
              ⊎_elim (λ (before : Contains (take i ts) t). inl ((h.exact t k).1 (inr (before, among.1)))) (λ (new : get_or ts i 0 ≡ t). inr (sym new, among.1)) (more.0 among.0))
              either)),
        );
    ascending = a;
  }

  pub all_added : (i : ℕ) (ws vs : List (ℕ × ℕ)) → length ts ≤ i → HasAdded ts key i ws vs → (t k : ℕ) → Has vs t k ↔ (Has ws t k ⊎ IsAmongWakes ts key (t, k))
  all_added i ws vs l h = λ t k. subst (λ (us : List ℕ). Has vs t k ↔ (Has ws t k ⊎ IsAmongWakes us key (t, k))) (take_all i ts l) (h.exact t k)
