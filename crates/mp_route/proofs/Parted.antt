-- Records of which some are taken out of the first ones: what is left, and what all are called.
use Rattle.std.proofs.Common.{◌≡◌, ◌⊎◌, Bool, true, false, cond, not, List, [], ◌∷◌, ◌++◌, All, AllPairs, Contains, filter, map, refl, sym, ap, subst, inl, inr, ⊎_elim, append_assoc}
use Rattle.std.proofs.lemmas.Bool.{both_ways, cases_Bool, false_from_ne_true, false≢true}
use Rattle.std.proofs.lemmas.List.Elements.{All-nil, All-cons, All-head, All-tail, Contains-append_cases, Contains-append_left, Contains-append_right}
use Rattle.std.proofs.lemmas.List.Kept.{AllPairs-cons}
use Rattle.mp_names.specs.declared.names.Name.{Name}
use Rattle.mp_names.specs.Names.{Distinct, In, has}
use Rattle.mp_names.proofs.Lists.{In_append, In_cases, In_here, In_later, In_left, In_right}
use Rattle.mp_job.proofs.Members.{Contains-filter, filter-Contains}
use Rattle.mp_ordered.proofs.Placing.{pairs_head, pairs_tail}
use Rattle.mp_outline.proofs.Named.{In_named, named_In}

pub all_front : {X : Type 0} (P : X → Type 0) (xs ys : List X) → All P (xs ++ ys) → All P xs
all_front P [] ys h = All-nil P
all_front P (x ∷ xs) ys h = All-cons P x xs (All-head P x (xs ++ ys) h) (all_front P xs ys (All-tail P x (xs ++ ys) h))

-- one name more in the middle of a list
middle_In : (x z : Name) (xs ys : List Name) → In z (xs ++ x ∷ ys) → (x ≡ z) ⊎ In z (xs ++ ys)
middle_In x z xs ys i =
    ⊎_elim
    (λ (k : In z xs). inr (In_left z xs ys k))
    (λ (k : In z (x ∷ ys)). ⊎_elim (λ (e : x ≡ z). inl e) (λ (l : In z ys). inr (In_right z xs ys l)) (In_cases z x ys k))
    (In_append z xs (x ∷ ys) i)

middle_once : (x : Name) (xs ys : List Name) → has (xs ++ ys) x ≡ false → Distinct (xs ++ ys) → Distinct (xs ++ x ∷ ys)
middle_once x [] ys n d = (n, d)
middle_once x (y ∷ xs) ys n d = (
  false_from_ne_true (has (xs ++ x ∷ ys) y) (λ i.
      ⊎_elim
      (λ (e : x ≡ y). both_ways (has (y ∷ xs ++ ys) x) n (subst (λ (z : Name). In z (y ∷ xs ++ ys)) (sym e) (In_here y (xs ++ ys))))
      (λ (k : In y (xs ++ ys)). both_ways (has (xs ++ ys) y) d.0 k)
      (middle_In x y xs ys i)),
  middle_once x xs ys (false_from_ne_true (has (xs ++ ys) x) (λ i. both_ways (has (y ∷ xs ++ ys) x) n (In_later x y (xs ++ ys) i))) d.1,
)

-- or at its front
In_middle : (x z : Name) (xs ys : List Name) → In z (x ∷ xs ++ ys) → In z (xs ++ x ∷ ys)
In_middle x z xs ys i =
    ⊎_elim
    (λ (e : x ≡ z). In_right z xs (x ∷ ys) (subst (λ (u : Name). In u (x ∷ ys)) e (In_here x ys)))
    (λ (k : In z (xs ++ ys)). ⊎_elim (λ (m : In z xs). In_left z xs (x ∷ ys) m) (λ (m : In z ys). In_right z xs (x ∷ ys) (In_later z x ys m)) (In_append z xs ys k))
    (In_cases z x (xs ++ ys) i)

once_middle : (x : Name) (xs ys : List Name) → Distinct (xs ++ x ∷ ys) → Distinct (x ∷ xs ++ ys)
once_middle x [] ys d = d
once_middle x (y ∷ xs) ys d = (
  false_from_ne_true (has (y ∷ xs ++ ys) x) (λ i.
      ⊎_elim
      (λ (e : y ≡ x). both_ways (has (xs ++ x ∷ ys) y) d.0 (In_middle x y xs ys (subst (λ (z : Name). In y (z ∷ xs ++ ys)) e (In_here y (xs ++ ys)))))
      (λ (k : In x (xs ++ ys)). both_ways (has (xs ++ ys) x) (once_middle x xs ys d.1).0 k)
      (In_cases x y (xs ++ ys) i)),
  (false_from_ne_true (has (xs ++ ys) y) (λ i. both_ways (has (xs ++ x ∷ ys) y) d.0 (In_middle x y xs ys (In_later y x (xs ++ ys) i))), (once_middle x xs ys d.1).1),
)

module _ (x : Name) (xs ys zs : List Name) where
  shifted : (xs ++ x ∷ ys) ++ zs ≡ xs ++ (x ∷ (ys ++ zs))
  shifted = append_assoc xs (x ∷ ys) zs

  joined : x ∷ ((xs ++ ys) ++ zs) ≡ x ∷ (xs ++ (ys ++ zs))
  joined = ap (λ (us : List Name). x ∷ us) (append_assoc xs ys zs)

  -- a name among others may as well stand first
  pub to_front_In : (z : Name) → In z ((xs ++ x ∷ ys) ++ zs) → In z (x ∷ (xs ++ ys) ++ zs)
  to_front_In z i =
      subst (In z) (sym joined)
      (⊎_elim (λ (e : x ≡ z). subst (λ (u : Name). In u (x ∷ (xs ++ (ys ++ zs)))) e (In_here x (xs ++ (ys ++ zs)))) (λ (k : In z (xs ++ (ys ++ zs))). In_later z x (xs ++ (ys ++ zs)) k) (middle_In x z xs (ys ++ zs) (subst (In z) shifted i)))

  pub from_front_In : (z : Name) → In z (x ∷ (xs ++ ys) ++ zs) → In z ((xs ++ x ∷ ys) ++ zs)
  from_front_In z i = subst (In z) (sym shifted) (In_middle x z xs (ys ++ zs) (subst (In z) joined i))

  pub to_front_once : Distinct ((xs ++ x ∷ ys) ++ zs) → Distinct (x ∷ (xs ++ ys) ++ zs)
  to_front_once d = subst Distinct (sym joined) (once_middle x xs (ys ++ zs) (subst Distinct shifted d))

is_not : (b : Bool) → b ≡ false → not b ≡ true
is_not true e = absurd (false≢true (sym e))
is_not false e = refl

module _ {X : Type 0} (p : X → Bool) where
  abbrev out : List X → List X
  out xs = filter p xs

  abbrev left : List X → List X → List X
  left xs ys = filter (λ x. not (p x)) xs ++ ys

  -- pairs that are related stay so where some are taken out
  pub left_pairs : (R : X → X → Type 0) (xs ys : List X) → AllPairs R (xs ++ ys) → AllPairs R (left xs ys)
  left_pairs R [] ys h = h
  left_pairs R (x ∷ xs) ys h = at (p x) (left_pairs R xs ys (pairs_tail R x (xs ++ ys) h))
    where
      still : (zs : List X) → All (R x) (zs ++ ys) → All (R x) (left zs ys)
      still [] a = a
      still (z ∷ zs) a = one (p z) (still zs (All-tail (R x) z (zs ++ ys) a))
        where
          one : (b : Bool) → All (R x) (left zs ys) → All (R x) (cond (not b) (z ∷ filter (λ u. not (p u)) zs) (filter (λ u. not (p u)) zs) ++ ys)
          one true h = h
          one false h = All-cons (R x) z (left zs ys) (All-head (R x) z (zs ++ ys) a) h

      at : (b : Bool) → AllPairs R (left xs ys) → AllPairs R (cond (not b) (x ∷ filter (λ u. not (p u)) xs) (filter (λ u. not (p u)) xs) ++ ys)
      at true k = k
      at false k = AllPairs-cons R x (left xs ys) (still xs (pairs_head R x (xs ++ ys) h)) k

  -- what holds of all holds of those that are left
  pub left_all : (P : X → Type 0) (xs ys : List X) → All P (xs ++ ys) → All P (left xs ys)
  left_all P [] ys h = h
  left_all P (x ∷ xs) ys h = at (p x) (left_all P xs ys (All-tail P x (xs ++ ys) h))
    where
      at : (b : Bool) → All P (left xs ys) → All P (cond (not b) (x ∷ filter (λ u. not (p u)) xs) (filter (λ u. not (p u)) xs) ++ ys)
      at true k = k
      at false k = All-cons P x (left xs ys) (All-head P x (xs ++ ys) h) k

  module _ (f : X → Name) where
    abbrev parted : List X → List X → List Name
    parted xs ys = map f (out xs) ++ map f (left xs ys)

    pub parted_In : (xs ys : List X) (z : Name) → In z (map f (xs ++ ys)) → In z (parted xs ys)
    parted_In xs ys z i =
        let a = In_named f (xs ++ ys) z i in
        subst (λ (u : Name). In u (parted xs ys)) a.2
        (⊎_elim
        (λ (k : Contains xs a.0). ⊎_elim
        (λ (e : p a.0 ≡ true). In_left (f a.0) (map f (out xs)) (map f (left xs ys)) (named_In f (out xs) a.0 (filter-Contains p xs a.0 k e)))
        (λ (e : p a.0 ≡ false). In_right (f a.0) (map f (out xs)) (map f (left xs ys)) (named_In f (left xs ys) a.0 (Contains-append_left (filter (λ x. not (p x)) xs) ys a.0 (filter-Contains (λ x. not (p x)) xs a.0 k (is_not (p a.0) e)))))
        (cases_Bool (p a.0)))
        (λ (k : Contains ys a.0). In_right (f a.0) (map f (out xs)) (map f (left xs ys)) (named_In f (left xs ys) a.0 (Contains-append_right (filter (λ x. not (p x)) xs) ys a.0 k)))
        (Contains-append_cases xs ys a.0 a.1))

    pub In_parted : (xs ys : List X) (z : Name) → In z (parted xs ys) → In z (map f (xs ++ ys))
    In_parted xs ys z i =
        ⊎_elim
        (λ (k : In z (map f (out xs))).
        let a = In_named f (out xs) z k in
        subst (λ (u : Name). In u (map f (xs ++ ys))) a.2 (named_In f (xs ++ ys) a.0 (Contains-append_left xs ys a.0 (Contains-filter p xs a.0 a.1).0)))
        (λ (k : In z (map f (left xs ys))).
        let a = In_named f (left xs ys) z k in
        subst (λ (u : Name). In u (map f (xs ++ ys))) a.2
        (named_In f (xs ++ ys) a.0
        (⊎_elim
        (λ (l : Contains (filter (λ x. not (p x)) xs) a.0). Contains-append_left xs ys a.0 (Contains-filter (λ x. not (p x)) xs a.0 l).0)
        (λ (l : Contains ys a.0). Contains-append_right xs ys a.0 l)
        (Contains-append_cases (filter (λ x. not (p x)) xs) ys a.0 a.1))))
        (In_append z (map f (out xs)) (map f (left xs ys)) i)

    pub parted_once : (xs ys : List X) → Distinct (map f (xs ++ ys)) → Distinct (parted xs ys)
    parted_once [] ys h = h
    parted_once (x ∷ xs) ys h =
        at (p x) (false_from_ne_true (has (parted xs ys) (f x)) (λ i. both_ways (has (map f (xs ++ ys)) (f x)) h.0 (In_parted xs ys (f x) i))) (parted_once xs ys h.1)
      where
        at : (b : Bool) → has (parted xs ys) (f x) ≡ false → Distinct (parted xs ys) → Distinct (map f (cond b (x ∷ filter p xs) (filter p xs)) ++ map f (cond (not b) (x ∷ filter (λ u. not (p u)) xs) (filter (λ u. not (p u)) xs) ++ ys))
        at true n d = (n, d)
        at false n d = middle_once (f x) (map f (out xs)) (map f (left xs ys)) n d
