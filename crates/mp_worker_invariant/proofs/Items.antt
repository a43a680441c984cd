-- Lists of which something holds of each item: with another item, with one more, and where all look the same.
use Rattle.std.proofs.Common.{◌≡◌, ◌+◌, ◌++◌, ℕ, ◌<◌, List, [], ◌∷◌, drop, get_or, length, length-append, map, set, take, sym, ap, ◌∙◌, subst, ⊎_elim, arith}
use Rattle.std.proofs.Math.ListN.{get_or-append, get_or-map}
use Rattle.std.proofs.Math.Seq.{get_or-append_seam, map-set_same, take-append_seam}
use Rattle.std.proofs.lemmas.Bool.{cases_eq}
use Rattle.std.proofs.lemmas.List.{get_or-set_other, get_or-set_same, length-map, length-set, set-get_or}
use Rattle.mp_worker_invariant.specs.Parts.{AtEach}

-- another item at one place
pub put_at : {X : Type 0} (P : ℕ → X → Type 0) (xs : List X) (i : ℕ) (x : X) → P i x → AtEach xs P → AtEach (set xs i x) P
put_at P xs i x new h j d l =
    let inside : j < length xs = omega (arith, length-set xs i x) in
    ⊎_elim
    (λ (e : j ≡ i).
    let here : i < length xs = omega arith in
    subst (λ (n : ℕ). P n (get_or (set xs i x) n d)) (sym e) (subst (P i) (sym (get_or-set_same xs i x d here)) new))
    (λ (e : j ≡ i → ⊥). subst (P j) (sym (get_or-set_other xs i j x d e)) (h j d inside))
    (cases_eq j i)

-- what holds of each item and its place holds of one more
pub one_more_at : {X : Type 0} (P : ℕ → X → Type 0) (xs : List X) (x : X) → AtEach xs P → P (length xs) x → AtEach (xs ++ x ∷ []) P
one_more_at P xs x each new j d l =
    let inside : j < length xs + 1 = omega (arith, length-append xs (x ∷ [])) in
    ⊎_elim
    (λ (last : j ≡ length xs). subst (λ (i : ℕ). P i (get_or (xs ++ x ∷ []) i d)) (sym last) (subst (P (length xs)) (sym (get_or-append_seam xs x [] d)) new))
    (λ (apart : j ≡ length xs → ⊥). let before : j < length xs = omega arith in subst (P j) (sym (get_or-append xs (x ∷ []) d j before)) (each j d before))
    (cases_eq j (length xs))

-- with the same item again a list is as it was
pub again_there : {X : Type 0} (xs : List X) (i : ℕ) (x new : X) → x ≡ get_or xs i x → new ≡ x → set xs i new ≡ xs
again_there xs i x new is e = ap (set xs i) (e ∙ is) ∙ set-get_or xs i x

-- Lists whose items are the same in what is seen of them

module _ {X Y : Type 0} (seen : X → Y) where
  pub same_length : (old new : List X) → map seen new ≡ map seen old → length new ≡ length old
  same_length old new same = sym (length-map new seen) ∙ ap length same ∙ length-map old seen

  -- as many are there, so a slice of all of them stands for all of them
  pub written_back : (whole lent new : List X) (n : ℕ) → length lent ≡ n → map seen new ≡ map seen lent → take n (new ++ drop (length new) whole) ≡ new
  written_back whole lent new n count same =
      let all : length new ≡ n = same_length lent new same ∙ count in
      subst (λ (k : ℕ). take k (new ++ drop (length new) whole) ≡ new) all (take-append_seam new (drop (length new) whole))

  -- another item that looks the same
  pub same_put : (old xs : List X) (i : ℕ) (d new : X) → map seen xs ≡ map seen old → seen new ≡ seen (get_or xs i d) → map seen (set xs i new) ≡ map seen old
  same_put old xs i d new same one = map-set_same seen xs i new d one ∙ same

  -- what is told of each by what is seen
  pub same_each : (P : ℕ → X → Type 0) → ((j : ℕ) (x y : X) → seen y ≡ seen x → P j x → P j y) → (old new : List X) → map seen new ≡ map seen old → AtEach old P → AtEach new P
  same_each P told old new same at j d inside =
      let within : j < length old = omega (arith, same_length old new same) in
      let is = sym (get_or-map seen new j d) ∙ ap (λ (ys : List Y). get_or ys j (seen d)) same ∙ get_or-map seen old j d in
      told j (get_or old j d) (get_or new j d) is (at j d within)

-- what holds of the first items and of one more
pub one_more_so : {X : Type 0} (P : X → Type 0) (xs : List X) (i : ℕ) (new : X)
    → ((k : ℕ) (d : X) → k < i → P (get_or xs k d)) → P new → i < length xs
    → (k : ℕ) (d : X) → k < i + 1 → P (get_or (set xs i new) k d)
one_more_so P xs i new below this inside k d l =
    ⊎_elim
    (λ (e : k ≡ i). subst (λ (n : ℕ). P (get_or (set xs i new) n d)) (sym e) (subst P (sym (get_or-set_same xs i new d inside)) this))
    (λ (e : k ≡ i → ⊥). subst P (sym (get_or-set_other xs i k new d e)) (below k d (omega arith)))
    (cases_eq k i)
