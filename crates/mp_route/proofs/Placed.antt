-- The names of the records of a list, where a record is put at its place.
use Rattle.std.proofs.Common.{◌≡◌, ℕ, false, List, [], ◌∷◌, ◌++◌, map, ⊎_elim, sym, subst}
use Rattle.std.proofs.lemmas.Bool.{both_ways, cond_both, false_from_ne_true}
use Rattle.mp_names.specs.declared.names.Name.{Name}
use Rattle.mp_names.specs.Names.{Distinct, In, has, is_before}
use Rattle.mp_names.proofs.Lists.{In_append, In_cases, In_here, In_later, In_left, In_right}
use Rattle.mp_model.specs.declared.record.Rec.{Rec}
use Rattle.mp_ordered.specs.InOrder.{put_in_order}

-- what isn't in a list isn't in its rest, nor is it its first name
pub not_here : (x y : Name) (ys : List Name) → has (y ∷ ys) x ≡ false → y ≡ x → ⊥
not_here x y ys h e = both_ways (has (y ∷ ys) x) h (subst (λ (z : Name). In z (y ∷ ys)) e (In_here y ys))

pub not_later : (x y : Name) (ys : List Name) → has (y ∷ ys) x ≡ false → has ys x ≡ false
not_later x y ys h = false_from_ne_true (has ys x) (λ i. both_ways (has (y ∷ ys) x) h (In_later x y ys i))

-- a name is in no list that holds only other names
pub in_neither : (x y : Name) (xs ys : List Name) → ((z : Name) → In z ys → In z (y ∷ xs)) → (y ≡ x → ⊥) → has xs x ≡ false → has ys x ≡ false
in_neither x y xs ys h n k =
    false_from_ne_true (has ys x) (λ i. ⊎_elim n (λ (j : In x xs). both_ways (has xs x) k j) (In_cases x y xs (h x i)))

module _ (rank : Rec → List ℕ) (f : Rec → Name) (r : Rec) where
  abbrev names_put : List Rec → List Name
  names_put xs = map f (put_in_order rank r xs)

  pub put_In : (xs : List Rec) (z : Name) → In z (f r ∷ map f xs) → In z (names_put xs)
  put_In [] z h = h
  put_In (y ∷ ys) z h =
      cond_both
      (is_before (rank y) (rank r))
      (y ∷ put_in_order rank r ys)
      (r ∷ y ∷ ys)
      (λ l. In z (map f l))
      (λ e.
      ⊎_elim
      (λ (g : f r ≡ z). In_later z (f y) (names_put ys) (put_In ys z (subst (λ (x : Name). In x (f r ∷ map f ys)) g (In_here (f r) (map f ys)))))
      (λ (i : In z (f y ∷ map f ys)).
      ⊎_elim
      (λ (g : f y ≡ z). subst (λ (x : Name). In x (f y ∷ names_put ys)) g (In_here (f y) (names_put ys)))
      (λ (j : In z (map f ys)). In_later z (f y) (names_put ys) (put_In ys z (In_later z (f r) (map f ys) j)))
      (In_cases z (f y) (map f ys) i))
      (In_cases z (f r) (f y ∷ map f ys) h))
      (λ e. h)

  pub In_put : (xs : List Rec) (z : Name) → In z (names_put xs) → In z (f r ∷ map f xs)
  In_put [] z = λ h. h
  In_put (y ∷ ys) z = cond_both (is_before (rank y) (rank r)) (y ∷ put_in_order rank r ys) (r ∷ y ∷ ys) (λ l. In z (map f l) → In z (f r ∷ f y ∷ map f ys)) (λ e h. later (In_put ys z) h) (λ e h. h)
    where
      later : (In z (names_put ys) → In z (f r ∷ map f ys)) → In z (f y ∷ names_put ys) → In z (f r ∷ f y ∷ map f ys)
      later rest h =
          ⊎_elim
          (λ (g : f y ≡ z). In_later z (f r) (f y ∷ map f ys) (subst (λ (x : Name). In x (f y ∷ map f ys)) g (In_here (f y) (map f ys))))
          (λ (i : In z (names_put ys)).
          ⊎_elim
          (λ (g : f r ≡ z). subst (λ (x : Name). In x (f r ∷ f y ∷ map f ys)) g (In_here (f r) (f y ∷ map f ys)))
          (λ (j : In z (map f ys)). In_later z (f r) (f y ∷ map f ys) (In_later z (f y) (map f ys) j))
          (In_cases z (f r) (map f ys) (rest i)))
          (In_cases z (f y) (names_put ys) h)

  put_once : (xs : List Rec) → Distinct (f r ∷ map f xs) → Distinct (names_put xs)
  put_once [] h = h
  put_once (y ∷ ys) h =
      cond_both (is_before (rank y) (rank r)) (y ∷ put_in_order rank r ys) (r ∷ y ∷ ys) (λ l. Distinct (map f l)) (λ e. later (put_once ys (not_later (f r) (f y) (map f ys) h.0, h.1.1))) (λ e. h)
    where
      later : Distinct (names_put ys) → Distinct (f y ∷ names_put ys)
      later rest = (
        in_neither (f y) (f r) (map f ys) (names_put ys) (In_put ys) (λ g. not_here (f r) (f y) (map f ys) h.0 (sym g)) h.1.0,
        rest,
      )

  -- Behind other names

  pub In_put_behind : (rest : List Name) (xs : List Rec) (z : Name) → In z (rest ++ names_put xs) → In z (f r ∷ rest ++ map f xs)
  In_put_behind rest xs z h =
      ⊎_elim
      (λ (i : In z rest). In_later z (f r) (rest ++ map f xs) (In_left z rest (map f xs) i))
      (λ (i : In z (names_put xs)).
      ⊎_elim
      (λ (g : f r ≡ z). subst (λ (x : Name). In x (f r ∷ rest ++ map f xs)) g (In_here (f r) (rest ++ map f xs)))
      (λ (j : In z (map f xs)). In_later z (f r) (rest ++ map f xs) (In_right z rest (map f xs) j))
      (In_cases z (f r) (map f xs) (In_put xs z i)))
      (In_append z rest (names_put xs) h)

  pub put_In_behind : (rest : List Name) (xs : List Rec) (z : Name) → In z (f r ∷ rest ++ map f xs) → In z (rest ++ names_put xs)
  put_In_behind rest xs z h =
      ⊎_elim
      (λ (g : f r ≡ z). In_right z rest (names_put xs) (put_In xs z (subst (λ (x : Name). In x (f r ∷ map f xs)) g (In_here (f r) (map f xs)))))
      (λ (i : In z (rest ++ map f xs)).
      ⊎_elim
      (λ (j : In z rest). In_left z rest (names_put xs) j)
      (λ (j : In z (map f xs)). In_right z rest (names_put xs) (put_In xs z (In_later z (f r) (map f xs) j)))
      (In_append z rest (map f xs) i))
      (In_cases z (f r) (rest ++ map f xs) h)

  pub put_once_behind : (rest : List Name) (xs : List Rec) → Distinct (f r ∷ rest ++ map f xs) → Distinct (rest ++ names_put xs)
  put_once_behind [] xs h = put_once xs h
  put_once_behind (a ∷ rest) xs h = (
    in_neither a (f r) (rest ++ map f xs) (rest ++ names_put xs) (In_put_behind rest xs) (λ g. not_here (f r) a (rest ++ map f xs) h.0 (sym g)) h.1.0,
    put_once_behind rest xs (not_later (f r) a (rest ++ map f xs) h.0, h.1.1),
  )
