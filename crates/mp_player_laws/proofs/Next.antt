-- Lists of names in an order, and what comes next of one.
use Rattle.std.proofs.Common.{◌≡◌, true, false, List, [], ◌∷◌, ◌++◌, sym, ap, ◌∙◌, subst, ⊎_elim, append_assoc, append-nil}
use Rattle.std.proofs.lemmas.Bool.{both_ways, false_from_ne_true, cases_Bool}
use Rattle.mp_names.specs.declared.names.Name.{Name}
use Rattle.mp_names.specs.Names.{has, In, IsPrefix, Less, IsAscending}
use Rattle.mp_names.proofs.Lists.{In_here, In_right, In_cases, In_append, In_push, In_prefix}
use Rattle.mp_names.proofs.Orders.{less_irreflexive, less_trans}
use Rattle.mp_player_laws.specs.Decisions.{ComesNext}

-- each name of the list comes before those behind it
abbrev pub AreInOrder : (Name → Name → Type 0) → List Name → Type 0
AreInOrder Before [] = Unit {0}
AreInOrder Before (x ∷ xs) = ((y : Name) → In y xs → Before x y) × AreInOrder Before xs

-- x is the first name of which P holds
abbrev pub IsFirst : (Name → Name → Type 0) → (Name → Type 0) → Name → Type 0
IsFirst Before P x = P x × ((y : Name) → P y → Before y x → ⊥)

-- An order in which no name comes before itself
pub record IsOrder (Before : Name → Name → Type 0) : Type 0 where
  pub irreflexive : (x : Name) → Before x x → ⊥
  pub transitive : (x y z : Name) → Before x y → Before y z → Before x z

pub by_rank : IsOrder Less
by_rank = record { irreflexive = less_irreflexive; transitive = less_trans }

pub ascending_in_order : (xs : List Name) → IsAscending xs → AreInOrder Less xs
ascending_in_order [] a = tt
ascending_in_order (x ∷ xs) a = (a.0, ascending_in_order xs a.1)

-- what comes next of a list is in it
pub next_in : (done all : List Name) (x : Name) → ComesNext done all x → In x all
next_in done all x next = In_prefix x (done ++ x ∷ []) all next (In_right x done (x ∷ []) (In_here x []))

module _ (Before : Name → Name → Type 0) (order : IsOrder Before) where
  -- the front of a list comes before the rest
  front_first : (xs ys : List Name) → AreInOrder Before (xs ++ ys) → (x y : Name) → In x xs → In y ys → Before x y
  front_first [] ys a x y i k = absurd (cc)
  front_first (z ∷ xs) ys a x y i k =
      ⊎_elim
      (λ (e : z ≡ x). subst (λ (u : Name). Before u y) e (a.0 y (In_right y xs ys k)))
      (λ (h : In x xs). front_first xs ys a.1 x y h k)
      (In_cases x z xs i)

  back_in_order : (xs ys : List Name) → AreInOrder Before (xs ++ ys) → AreInOrder Before ys
  back_in_order [] ys a = a
  back_in_order (x ∷ xs) ys a = back_in_order xs ys a.1

  module _ (done all : List Name) (in_order : AreInOrder Before all) where
    module _ (x : Name) (next : ComesNext done all x) where
      sorted : AreInOrder Before ((done ++ x ∷ []) ++ next.0)
      sorted = subst (AreInOrder Before) (sym next.1) in_order

      is_new : has done x ≡ false
      is_new =
          false_from_ne_true (has done x) (λ h.
          order.irreflexive x (front_first done ((x ∷ []) ++ next.0) (subst (AreInOrder Before) (append_assoc done (x ∷ []) next.0) sorted) x x h (In_here x next.0)))

      -- what comes before it is done
      earlier_is_done : (y : Name) → In y all → Before y x → In y done
      earlier_is_done y i before =
          ⊎_elim
          (λ (h : In y (done ++ x ∷ [])).
          ⊎_elim (λ (k : In y done). k) (λ (e : x ≡ y). absurd (order.irreflexive x (subst (λ (z : Name). Before z x) (sym e) before))) (In_push y x done h))
          (λ (h : In y next.0).
          absurd (order.irreflexive x (order.transitive x y x (front_first (done ++ x ∷ []) next.0 sorted x y (In_right x done (x ∷ []) (In_here x [])) h) before)))
          (In_append y (done ++ x ∷ []) next.0 (subst (λ (l : List Name). In y l) (sym next.1) i))

    -- a name that isn't done, where all before it is
    next_from_done : IsPrefix done all → (x : Name) → In x all → has done x ≡ false → ((y : Name) → In y all → Before y x → In y done) → ComesNext done all x
    next_from_done p x i n h = go p.0 p.1
      where
        go : (rest : List Name) → done ++ rest ≡ all → ComesNext done all x
        go [] e = absurd (both_ways (has done x) n (subst (λ (l : List Name). In x l) (sym e ∙ append-nil done) i))
        go (r ∷ rest) e =
            let sorted = subst (AreInOrder Before) (sym e) in_order in
            let there = subst (λ (l : List Name). In x l) (sym e) i in
            let here = In_here r rest in
            ⊎_elim
            (λ (k : In x done). absurd (both_ways (has done x) n k))
            (λ (k : In x (r ∷ rest)).
            ⊎_elim
            (λ (f : r ≡ x). (rest, append_assoc done (x ∷ []) rest ∙ ap (λ (z : Name). done ++ z ∷ rest) (sym f) ∙ e))
            (λ (f : In x rest).
            let before = (back_in_order done (r ∷ rest) sorted).0 x f in
            let in_front = h r (subst (λ (l : List Name). In r l) e (In_right r done (r ∷ rest) here)) before in
            absurd (order.irreflexive r (front_first done (r ∷ rest) sorted r r in_front here)))
            (In_cases x r rest k))
            (In_append x done (r ∷ rest) there)

    -- where P holds of what isn't done, the first of it comes next
    module _ (P : Name → Type 0) (into : (x : Name) → P x → In x all × (has done x ≡ false)) (back : (x : Name) → In x all → has done x ≡ false → P x) where
      pub next_from_first : IsPrefix done all → (x : Name) → IsFirst Before P x → ComesNext done all x
      next_from_first p x h =
          let i = into x h.0 in
          next_from_done p x i.0 i.1 (λ y k before.
          ⊎_elim (λ (e : has done y ≡ true). e) (λ (e : has done y ≡ false). absurd (h.1 y (back y k e) before)) (cases_Bool (has done y)))

      pub first_from_next : (x : Name) → ComesNext done all x → IsFirst Before P x
      first_from_next x n = (
        back x (next_in done all x n) (is_new x n),
        (λ y p before. let i = into y p in both_ways (has done y) i.1 (earlier_is_done x n y i.0 before)),
      )

-- the same of ascending lists

module _ (done all : List Name) (x : Name) (ascends : IsAscending all) (next : ComesNext done all x) where
  pub next_is_new : has done x ≡ false
  next_is_new = is_new Less by_rank done all (ascending_in_order all ascends) x next

  -- what is less is done
  pub less_is_done : (y : Name) → In y all → Less y x → In y done
  less_is_done = earlier_is_done Less by_rank done all (ascending_in_order all ascends) x next
