-- Where an item is put, and that the order is kept.
use Rattle.std.proofs.Common.{◌≡◌, ℕ, zero, suc, ◌+◌, ◌<◌, ◌≤◌, ◌-◌, ◌⊎◌, ◌==◌, nat_lt, Bool, true, false, cond, ◌&&◌, Some, List, [], ◌∷◌, length, drop, get_or, All, AllPairs, refl, sym, ap, ◌∙◌, subst, inl, inr, ⊎_elim, arith}
use Rattle.std.specs.List.{insert, prefix_len, remove}
use Rattle.std.specs.List.Sorted.{IsPartitionPoint, IsPartitionedBy}
use Rattle.std.specs.Prelude.{slice_get}
use Rattle.std.proofs.lemmas.Bool.{false≢true, eqb-true, eq-eqb, ltb-true, lt-ltb, and_parts, and_from, or_cases, or_left, or_right, both_ways, cases_Bool, cases_lt, cases_order, false_from_ne_true}
use Rattle.std.proofs.lemmas.List.{get_or_default}
use Rattle.std.proofs.lemmas.List.Edits.{get_or-remove_above, get_or-remove_below, length-remove}
use Rattle.std.proofs.lemmas.List.Sums.{prefix_len_passes, prefix_len_stops}
use Rattle.std.proofs.lemmas.List.Elements.{All-nil, All-cons, All-head, All-tail, All-weaker, All-from_get_or}
use Rattle.std.proofs.lemmas.List.Kept.{AllPairs-cons}
use Rattle.mp_names.specs.Names.{is_before}
use Rattle.mp_ordered.specs.InOrder.{IsInOrder, put_in_order, GoesBack}

-- lists of numbers

-- what comes after one list of two that aren't in this order
pub split_before : (zs xs ys : List ℕ) → is_before zs xs ≡ true → (is_before zs ys ≡ true) ⊎ (is_before ys xs ≡ true)
split_before zs [] ys h = absurd (none zs h)
  where
    none : (zs : List ℕ) → is_before zs [] ≡ true → ⊥
    none [] h = false≢true h
    none (z ∷ zs) h = false≢true h
split_before [] (x ∷ xs) [] h = inr refl
split_before [] (x ∷ xs) (y ∷ ys) h = inl refl
split_before (z ∷ zs) (x ∷ xs) [] h = inr refl
split_before (z ∷ zs) (x ∷ xs) (y ∷ ys) h =
    ⊎_elim
    (λ (e : nat_lt z x ≡ true). below (ltb-true z x e))
    (λ (e : (z == x && is_before zs xs) ≡ true). let p = and_parts (z == x) (is_before zs xs) e in same (eqb-true z x p.0) (split_before zs xs ys p.1))
    (or_cases (nat_lt z x) (z == x && is_before zs xs) h)
  where
    first : z < y → is_before (z ∷ zs) (y ∷ ys) ≡ true
    first l = or_left (nat_lt z y) (z == y && is_before zs ys) (lt-ltb z y l)

    second : y < x → is_before (y ∷ ys) (x ∷ xs) ≡ true
    second l = or_left (nat_lt y x) (y == x && is_before ys xs) (lt-ltb y x l)

    below : z < x → (is_before (z ∷ zs) (y ∷ ys) ≡ true) ⊎ (is_before (y ∷ ys) (x ∷ xs) ≡ true)
    below l = ⊎_elim (λ (e : z ≡ y). inr (second (omega arith))) (λ (e : (z < y) ⊎ (y < z)). ⊎_elim (λ (f : z < y). inl (first f)) (λ (f : y < z). inr (second (omega arith))) e) (cases_order z y)

    same : z ≡ x → (is_before zs ys ≡ true) ⊎ (is_before ys xs ≡ true) → (is_before (z ∷ zs) (y ∷ ys) ≡ true) ⊎ (is_before (y ∷ ys) (x ∷ xs) ≡ true)
    same e b =
        ⊎_elim
        (λ (f : z ≡ y).
        let g : y ≡ x = omega arith in
        ⊎_elim
        (λ (c : is_before zs ys ≡ true). inl (or_right (nat_lt z y) (z == y && is_before zs ys) (and_from (z == y) (is_before zs ys) (eq-eqb z y f) c)))
        (λ (c : is_before ys xs ≡ true). inr (or_right (nat_lt y x) (y == x && is_before ys xs) (and_from (y == x) (is_before ys xs) (eq-eqb y x g) c)))
        b)
        (λ (f : (z < y) ⊎ (y < z)). ⊎_elim (λ (c : z < y). inl (first c)) (λ (c : y < z). inr (second (omega arith))) f)
        (cases_order z y)

-- no two lists come before each other
one_way : (xs ys : List ℕ) → is_before xs ys ≡ true → is_before ys xs ≡ false
one_way xs ys h = false_from_ne_true (is_before ys xs) (λ k. both xs ys h k)
  where
    both : (xs ys : List ℕ) → is_before xs ys ≡ true → is_before ys xs ≡ true → ⊥
    both [] [] h k = false≢true h
    both [] (y ∷ ys) h k = false≢true k
    both (x ∷ xs) [] h k = false≢true h
    both (x ∷ xs) (y ∷ ys) h k =
        ⊎_elim
        (λ (e : nat_lt x y ≡ true). let l : x < y = ltb-true x y e in ⊎_elim (λ (f : nat_lt y x ≡ true). let m : y < x = ltb-true y x f in omega arith) (λ (f : (y == x && is_before ys xs) ≡ true). let m : y ≡ x = eqb-true y x (and_parts (y == x) (is_before ys xs) f).0 in omega arith) (or_cases (nat_lt y x) (y == x && is_before ys xs) k))
        (λ (e : (x == y && is_before xs ys) ≡ true). let p = and_parts (x == y) (is_before xs ys) e in let l : x ≡ y = eqb-true x y p.0 in ⊎_elim (λ (f : nat_lt y x ≡ true). let m : y < x = ltb-true y x f in omega arith) (λ (f : (y == x && is_before ys xs) ≡ true). both xs ys p.1 (and_parts (y == x) (is_before ys xs) f).1) (or_cases (nat_lt y x) (y == x && is_before ys xs) k))
        (or_cases (nat_lt x y) (x == y && is_before xs ys) h)

-- what isn't before x isn't before what x isn't after
not_before_trans : (xs ys zs : List ℕ) → is_before ys xs ≡ false → is_before zs ys ≡ false → is_before zs xs ≡ false
not_before_trans xs ys zs h k =
    false_from_ne_true (is_before zs xs)
    (λ e. ⊎_elim (λ (f : is_before zs ys ≡ true). both_ways (is_before zs ys) k f) (λ (f : is_before ys xs ≡ true). both_ways (is_before ys xs) h f) (split_before zs xs ys e))

-- pairs

module _ {X : Type 0} (R : X → X → Type 0) where
  pub pairs_head : (x : X) (xs : List X) → AllPairs R (x ∷ xs) → All (R x) xs
  pairs_head x xs h = All-from_get_or (R x) xs x (λ i l. h 0 (suc i) x (omega arith) (omega arith))

  pub pairs_tail : (x : X) (xs : List X) → AllPairs R (x ∷ xs) → AllPairs R xs
  pairs_tail x xs h = λ i j d l m. h (suc i) (suc j) d (omega arith) (omega arith)

  pub pairs_drop : (n : ℕ) (xs : List X) → AllPairs R xs → AllPairs R (drop n xs)
  pairs_drop zero xs h = h
  pairs_drop (suc n) [] h = h
  pairs_drop (suc n) (x ∷ xs) h = pairs_drop n xs (pairs_tail x xs h)

  pair_too : (a b x y : X) → x ≡ a → y ≡ b → R a b → R x y
  pair_too a b x y e f h = subst (λ (z : X). R z y) (sym e) (subst (λ (z : X). R a z) (sym f) h)

  pub pairs_without : (xs : List X) (i : ℕ) → i < length xs → AllPairs R xs → AllPairs R (remove xs i)
  pairs_without xs i l h = λ k j d m n.
      let one_less = length-remove xs i l in
      let at = λ (q : ℕ). get_or xs q d in
      ⊎_elim
      (λ (a : j < i). pair_too (at k) (at j) _ _ (get_or-remove_below xs i d k (omega arith) l) (get_or-remove_below xs i d j a l) (h k j d m (omega arith)))
      (λ (a : i ≤ j).
      let later = get_or-remove_above xs i d j a l in
      ⊎_elim
      (λ (b : k < i). pair_too (at k) (at (j + 1)) _ _ (get_or-remove_below xs i d k b l) later (h k (j + 1) d (omega arith) (omega arith)))
      (λ (b : i ≤ k). pair_too (at (k + 1)) (at (j + 1)) _ _ (get_or-remove_above xs i d k b l) later (h (k + 1) (j + 1) d (omega arith) (omega arith)))
      (cases_lt k i))
      (cases_lt j i)

module _ {T : Type 0} (rank : T → List ℕ) where
  -- the items of the list with an item at its place
  pub put_all : (P : T → Type 0) (x : T) (ys : List T) → P x → All P ys → All P (put_in_order rank x ys)
  put_all P x [] p h = All-cons P x [] p h
  put_all P x (y ∷ ys) p h = pick (is_before (rank y) (rank x)) (All-cons P y (put_in_order rank x ys) (All-head P y ys h) (put_all P x ys p (All-tail P y ys h))) (All-cons P x (y ∷ ys) p h)
    where
      pick : (b : Bool) → All P (y ∷ put_in_order rank x ys) → All P (x ∷ y ∷ ys) → All P (cond b (y ∷ put_in_order rank x ys) (x ∷ y ∷ ys))
      pick true k l = k
      pick false k l = l

  abbrev NotAfter : T → T → Type 0
  NotAfter x y = is_before (rank y) (rank x) ≡ false

  -- putting keeps the order
  pub put_keeps : (x : T) (ys : List T) → IsInOrder rank ys → IsInOrder rank (put_in_order rank x ys)
  put_keeps x [] h = AllPairs-cons NotAfter x [] (All-nil (NotAfter x)) h
  put_keeps x (y ∷ ys) h = ⊎_elim (later (put_keeps x ys (pairs_tail NotAfter y ys h))) here (cases_Bool (is_before (rank y) (rank x)))
    where
      rest : All (NotAfter y) ys
      rest = pairs_head NotAfter y ys h

      later : IsInOrder rank (put_in_order rank x ys) → is_before (rank y) (rank x) ≡ true → IsInOrder rank (put_in_order rank x (y ∷ ys))
      later k e = rw e (AllPairs-cons NotAfter y (put_in_order rank x ys) (put_all (NotAfter y) x ys (one_way (rank y) (rank x) e) rest) k)

      here : is_before (rank y) (rank x) ≡ false → IsInOrder rank (put_in_order rank x (y ∷ ys))
      here e = rw e (AllPairs-cons NotAfter x (y ∷ ys) (All-cons (NotAfter x) y ys e (All-weaker (NotAfter y) (NotAfter x) (λ z k. not_before_trans (rank x) (rank y) (rank z) e k) ys rest)) h)

  -- an item that stands first goes back to its place
  pub goes_back : GoesBack rank
  goes_back x [] h = refl
  goes_back x (y ∷ ys) h = let e : is_before (rank y) (rank x) ≡ false = All-head (NotAfter x) y ys (pairs_head NotAfter x (y ∷ ys) h) in rw e refl

  -- the place after all items that come before it
  pub placed_at : (x : T) (ys : List T) (at : ℕ) → at ≤ length ys → ((k : ℕ) (d : T) → k < at → is_before (rank (get_or ys k d)) (rank x) ≡ true) → ((d : T) → at < length ys → is_before (rank (get_or ys at d)) (rank x) ≡ false) → insert ys at x ≡ put_in_order rank x ys
  placed_at x [] zero l h g = refl
  placed_at x [] (suc at) l h g = absurd (omega arith)
  placed_at x (y ∷ ys) zero l h g = let e : is_before (rank y) (rank x) ≡ false = g y (omega arith) in rw e refl
  placed_at x (y ∷ ys) (suc at) l h g =
      let e : is_before (rank y) (rank x) ≡ true = h 0 y (omega arith) in
      rw e (ap (λ (r : List T). y ∷ r) (placed_at x ys at (omega arith) (λ k d m. h (suc k) d (omega arith)) (λ d m. g d (omega arith))))

  -- what comes before an item stands in front of what doesn't
  pub partitioned : (x : T) (ys : List T) → IsInOrder rank ys → (i j : ℕ) (d : T) → i ≤ j → j < length ys → is_before (rank (get_or ys j d)) (rank x) ≡ true → is_before (rank (get_or ys i d)) (rank x) ≡ true
  partitioned x ys h i j d l m e = ⊎_elim (λ (f : i ≡ j). rw f e) (λ (f : (i < j) ⊎ (j < i)). ⊎_elim (λ (k : i < j). before (h i j d k m)) (λ (k : j < i). absurd (omega arith)) f) (cases_order i j)
    where
      before : is_before (rank (get_or ys j d)) (rank (get_or ys i d)) ≡ false → is_before (rank (get_or ys i d)) (rank x) ≡ true
      before n = ⊎_elim (λ (k : is_before (rank (get_or ys j d)) (rank (get_or ys i d)) ≡ true). absurd (both_ways (is_before (rank (get_or ys j d)) (rank (get_or ys i d))) n k)) (λ (k : is_before (rank (get_or ys i d)) (rank x) ≡ true). k) (split_before (rank (get_or ys j d)) (rank x) (rank (get_or ys i d)) e)

  -- the place after the last item that comes before it
  pub placed_after : (x y : T) (ys : List T) (at : ℕ) → IsInOrder rank ys → 0 < at → at ≤ length ys → y ≡ get_or ys (at - 1) y → is_before (rank y) (rank x) ≡ true → ((k : ℕ) (d : T) → at ≤ k → k < length ys → is_before (rank (get_or ys k d)) (rank x) ≡ false) → insert ys at x ≡ put_in_order rank x ys
  placed_after x y ys at h pos l e b later = placed_at x ys at l (λ k d m. partitioned x ys h k (at - 1) d (omega arith) (omega arith) (subst (λ (z : T). is_before (rank z) (rank x) ≡ true) (e ∙ get_or_default ys (at - 1) y d (omega arith)) b)) (λ d m. later at d (omega arith) m)

-- Where a list is parted

module _ {T : Type 0} where
  -- as many items are in front of a cut as pass its test
  pub count_parts : (p : T → Bool) (xs : List T) → IsPartitionedBy p xs → IsPartitionPoint (λ y. p y ≡ true) (λ y. p y ≡ false) xs (prefix_len p xs)
  count_parts p xs h = (
    λ k d z l. prefix_len_passes p xs k d l,
    λ k d l m. false_from_ne_true (p (get_or xs k d)) (λ e. both_ways (p (get_or xs (prefix_len p xs) d)) (prefix_len_stops p xs d (omega arith)) (h (prefix_len p xs) k d l m e)),
  )

  -- what stands at an index that was read
  pub read_at : (xs : List T) (n : ℕ) (x : T) → slice_get xs n ≡ Some x → (n < length xs) × ((d : T) → get_or xs n d ≡ x)
  read_at [] n x e = absurd (cc)
  read_at (y ∷ ys) zero x e = (omega arith, λ d. let f : y ≡ x = cc (e) in f)
  read_at (y ∷ ys) (suc n) x e = let r = read_at ys n x e in (let l = r.0 in omega arith, r.1)

-- an item that is put is one more
pub length-put : {T : Type 0} (rank : T → List ℕ) (x : T) (ys : List T) → length (put_in_order rank x ys) ≡ length ys + 1
length-put rank x [] = refl
length-put rank x (y ∷ ys) = either (is_before (rank y) (rank x)) (length-put rank x ys)
  where
    either : (b : Bool) → length (put_in_order rank x ys) ≡ length ys + 1 → length (cond b (y ∷ put_in_order rank x ys) (x ∷ y ∷ ys)) ≡ suc (length ys) + 1
    either true e = omega arith
    either false e = omega arith
