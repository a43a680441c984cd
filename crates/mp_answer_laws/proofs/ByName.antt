-- A list in the order of its elements' names is made of the elements of each name, one name after the other.
use Rattle.std.proofs.Common.{◌≡◌, ◌⊎◌, Bool, true, false, cond, not, List, [], ◌∷◌, ◌++◌, filter, flat_map, Contains, refl, sym, ap, ◌∙◌, subst, ⊎_elim}
use Rattle.std.proofs.lemmas.Bool.{both_ways, cases_Bool, false≢true, false_from_ne_true}
use Rattle.std.proofs.lemmas.Grind.{flat_map-append}
use Rattle.mp_names.specs.declared.names.Name.{Name}
use Rattle.mp_names.specs.Names.{In, IsAscending, Less, same_name}
use Rattle.mp_names.proofs.Lists.{In_cases, In_here, In_later, same_name-from, same_name-true}
use Rattle.mp_names.proofs.Orders.{less_connected, less_irreflexive, less_trans}
use Rattle.mp_job.proofs.Members.{Contains-filter, Contains-here, Contains-later}
use Rattle.mp_outline.proofs.Pairs.{Pairs, Pairs-filter}

module _ {X : Type 0} where
  -- where no element passes the test nothing stays
  pub filter_none : (p : X → Bool) (xs : List X) → ((x : X) → Contains xs x → p x ≡ false) → filter p xs ≡ []
  filter_none p [] h = refl
  filter_none p (x ∷ xs) h = let e = h x (Contains-here x xs) in rw e (filter_none p xs (λ y i. h y (Contains-later x y xs i)))

module _ {X : Type 0} (name : X → Name) where
  -- the elements of a name
  abbrev pub of_name : Name → List X → List X
  of_name n xs = filter (λ x. same_name (name x) n) xs

  -- the elements of other names
  abbrev beside_name : Name → List X → List X
  beside_name n xs = filter (λ x. not (same_name (name x) n)) xs

  -- the second element's name doesn't come before that of the first
  abbrev NotBefore : X → X → Type 0
  NotBefore x y = Less (name y) (name x) → ⊥

  -- no element's name comes before that of one in front of it
  abbrev pub StandByName : List X → Type 0
  StandByName xs = Pairs NotBefore xs

  -- what has another name isn't of this one
  other_name : (x : X) (n : Name) → (name x ≡ n → ⊥) → same_name (name x) n ≡ false
  other_name x n apart = false_from_ne_true (same_name (name x) n) (λ e. apart (same_name-true (name x) n e))

  -- the elements of the least name stand in front of all others
  least_in_front : (n : Name) (xs : List X) → StandByName xs → ((x : X) → Contains xs x → Less (name x) n → ⊥) → xs ≡ of_name n xs ++ beside_name n xs
  least_in_front n [] h least = refl
  least_in_front n (x ∷ xs) h least =
      let rest = least_in_front n xs h.1 (λ y i. least y (Contains-later x y xs i)) in
      ⊎_elim (here rest) (past rest) (cases_Bool (same_name (name x) n))
    where
      here : xs ≡ of_name n xs ++ beside_name n xs → same_name (name x) n ≡ true → x ∷ xs ≡ of_name n (x ∷ xs) ++ beside_name n (x ∷ xs)
      here r e = rw e (ap (λ (ys : List X). x ∷ ys) r)

      -- behind an element of another name there is none of this one
      apart : same_name (name x) n ≡ false → (y : X) → Contains xs y → name y ≡ n → ⊥
      apart e y i same =
          ⊎_elim
          (λ (f : name x ≡ n). both_ways (same_name (name x) n) e (same_name-from (name x) n f))
          (λ (l : Less (name x) n ⊎ Less n (name x)).
          ⊎_elim
          (λ (a : Less (name x) n). least x (Contains-here x xs) a)
          (λ (a : Less n (name x)). h.0 y i (subst (λ (m : Name). Less m (name x)) (sym same) a))
          l)
          (less_connected (name x) n)

      past : xs ≡ of_name n xs ++ beside_name n xs → same_name (name x) n ≡ false → x ∷ xs ≡ of_name n (x ∷ xs) ++ beside_name n (x ∷ xs)
      past r e =
          let none : of_name n xs ≡ [] = filter_none (λ y. same_name (name y) n) xs (λ y i. other_name y n (apart e y i)) in
          rw (e, none) (ap (λ (ys : List X). x ∷ ys) (r ∙ ap (λ (ys : List X). ys ++ beside_name n xs) none))

  -- without the elements of one name, those of any other name stay
  others_stay : (m n : Name) (xs : List X) → (m ≡ n → ⊥) → of_name m (beside_name n xs) ≡ of_name m xs
  others_stay m n [] apart = refl
  others_stay m n (x ∷ xs) apart =
      let rest = others_stay m n xs apart in
      ⊎_elim (gone rest) (kept rest) (cases_Bool (same_name (name x) n))
    where
      gone : of_name m (beside_name n xs) ≡ of_name m xs → same_name (name x) n ≡ true → of_name m (beside_name n (x ∷ xs)) ≡ of_name m (x ∷ xs)
      gone r e =
          let other : same_name (name x) m ≡ false = other_name x m (λ f. apart (sym f ∙ same_name-true (name x) n e)) in
          rw (e, other) r

      kept : of_name m (beside_name n xs) ≡ of_name m xs → same_name (name x) n ≡ false → of_name m (beside_name n (x ∷ xs)) ≡ of_name m (x ∷ xs)
      kept r e = rw e (ap (λ (ys : List X). cond (same_name (name x) m) (x ∷ ys) ys) r)

  module _ {Y : Type 0} (f : X → List Y) (g : Name → List Y) where
    -- so f of the whole list is g of each name in turn, where the names have those of all elements and g of a name is f of its elements
    pub by_names : (names : List Name) (xs : List X) → IsAscending names → StandByName xs → ((x : X) → Contains xs x → In (name x) names) → ((n : Name) → In n names → g n ≡ flat_map f (of_name n xs)) → flat_map g names ≡ flat_map f xs
    by_names [] [] a h named same = refl
    by_names [] (x ∷ xs) a h named same = absurd (false≢true (named x (Contains-here x xs)))
    by_names (n ∷ ns) xs a h named same =
        ap (λ (ys : List Y). ys ++ flat_map g ns) (same n (In_here n ns))
        ∙ ap (λ (ys : List Y). flat_map f (of_name n xs) ++ ys) (by_names ns (beside_name n xs) a.1 (Pairs-filter NotBefore (λ x. not (same_name (name x) n)) xs h) others_named same_beside)
        ∙ sym (flat_map-append f (of_name n xs) (beside_name n xs))
        ∙ ap (flat_map f) (sym (least_in_front n xs h least))
      where
        least : (x : X) → Contains xs x → Less (name x) n → ⊥
        least x i l =
            ⊎_elim
            (λ (e : n ≡ name x). less_irreflexive n (subst (λ (m : Name). Less m n) (sym e) l))
            (λ (j : In (name x) ns). less_irreflexive n (less_trans n (name x) n (a.0 (name x) j) l))
            (In_cases (name x) n ns (named x i))

        others_named : (x : X) → Contains (beside_name n xs) x → In (name x) ns
        others_named x i =
            let r = Contains-filter (λ (y : X). not (same_name (name y) n)) xs x i in
            ⊎_elim
            (λ (e : n ≡ name x). absurd (false≢true (sym (ap not (same_name-from (name x) n (sym e))) ∙ r.1)))
            (λ (j : In (name x) ns). j)
            (In_cases (name x) n ns (named x r.0))

        same_beside : (m : Name) → In m ns → g m ≡ flat_map f (of_name m (beside_name n xs))
        same_beside m i =
            let apart : m ≡ n → ⊥ = λ e. less_irreflexive n (subst (λ (k : Name). Less n k) e (a.0 m i)) in
            same m (In_later m n ns i) ∙ ap (flat_map f) (sym (others_stay m n xs apart))
