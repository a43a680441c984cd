-- What the searches through lists find.
use Rattle.std.proofs.Common.{◌≡◌, ◌⊎◌, Bool, true, false, List, [], ◌∷◌, ◌++◌, Option, None, Some, refl, sym, ap, ◌∙◌, subst, inl, inr, ⊎_elim}
use Rattle.std.proofs.lemmas.Bool.{false≢true, both_ways, cases_Bool, cond-true, cond-false}
use Rattle.mp_names.specs.declared.names.Name.{Name}
use Rattle.mp_names.specs.Names.{same_name, In, IsPrefix, rank_of, is_before, Less, IsLeast}
use Rattle.mp_names.proofs.Lists.{same_name-true, same_name-refl, In_here, In_later, In_cases}
use Rattle.mp_names.proofs.Orders.{before_is, is_before-from, less_irreflexive, less_trans, least_unique, IsNone}
use Rattle.mp_machine.specs.Tests.{next_of, lesser, least_where}

pub some_same : {X : Type 0} (x y : X) → Some x ≡ Some y → x ≡ y
some_same x y e = cc

none_or_some : {X : Type 0} (x : X) (r : Option X) → r ≡ None → r ≡ Some x → ⊥
none_or_some x r e f = cc

abbrev IsFirst : (Name → Bool) → List Name → Name → Type 0
IsFirst p xs x = In x xs × (p x ≡ true) × ((z : Name) → In z xs → p z ≡ true → Less z x → ⊥)

abbrev Finds : (Name → Bool) → List Name → Type 0
Finds p xs = ((least_where p xs ≡ None) × IsNone p xs) ⊎ ((x : Name) × (least_where p xs ≡ Some x) × IsFirst p xs x)

finds : (p : Name → Bool) (xs : List Name) → Finds p xs
finds p [] = inl (refl, (λ z i. absurd (false≢true i)))
finds p (x ∷ xs) = ⊎_elim (λ (e : p x ≡ true). here e (finds p xs)) (λ (e : p x ≡ false). later e (finds p xs)) (cases_Bool (p x))
  where
    own : p x ≡ true → ((z : Name) → In z xs → p z ≡ true → Less z x → ⊥) → IsFirst p (x ∷ xs) x
    own e h = (In_here x xs, e, (λ z i k l. ⊎_elim (λ (q : x ≡ z). less_irreflexive x (subst (λ (u : Name). Less u x) (sym q) l)) (λ (q : In z xs). h z q k l) (In_cases z x xs i)))

    here : p x ≡ true → Finds p xs → Finds p (x ∷ xs)
    here e f =
        inr (⊎_elim
        (λ (n : (least_where p xs ≡ None) × IsNone p xs). (x, cond-true (p x) (lesser x (least_where p xs)) (least_where p xs) e ∙ ap (lesser x) n.0, own e (λ z i k l. both_ways (p z) (n.1 z i) k)))
        (λ (y : (y : Name) × (least_where p xs ≡ Some y) × IsFirst p xs y).
        let at = cond-true (p x) (lesser x (least_where p xs)) (least_where p xs) e ∙ ap (lesser x) y.1 in
        ⊎_elim
        (λ (b : is_before (rank_of x) (rank_of y.0) ≡ true).
        (x, at ∙ cond-true (is_before (rank_of x) (rank_of y.0)) (Some x) (Some y.0) b, own e (λ z i k l. y.2.2 z i k (less_trans z x y.0 l (before_is (rank_of x) (rank_of y.0) b)))))
        (λ (b : is_before (rank_of x) (rank_of y.0) ≡ false). (
          y.0,
          at ∙ cond-false (is_before (rank_of x) (rank_of y.0)) (Some x) (Some y.0) b,
          (
            In_later y.0 x xs y.2.0,
            y.2.1,
            (λ z i k l.
                ⊎_elim
                (λ (q : x ≡ z). both_ways (is_before (rank_of x) (rank_of y.0)) b (is_before-from (rank_of x) (rank_of y.0) (subst (λ (u : Name). Less u y.0) (sym q) l)))
                (λ (q : In z xs). y.2.2 z q k l)
                (In_cases z x xs i)),
          ),
        ))
        (cases_Bool (is_before (rank_of x) (rank_of y.0))))
        f)

    later : p x ≡ false → Finds p xs → Finds p (x ∷ xs)
    later e f =
        let at = cond-false (p x) (lesser x (least_where p xs)) (least_where p xs) e in
        ⊎_elim
        (λ (n : (least_where p xs ≡ None) × IsNone p xs). inl (at ∙ n.0, (λ z i. ⊎_elim (λ (q : x ≡ z). subst (λ (u : Name). p u ≡ false) q e) (λ (q : In z xs). n.1 z q) (In_cases z x xs i))))
        (λ (y : (y : Name) × (least_where p xs ≡ Some y) × IsFirst p xs y).
        inr (
          y.0,
          at ∙ y.1,
          (
            In_later y.0 x xs y.2.0,
            y.2.1,
            (λ z i k l.
                ⊎_elim
                (λ (q : x ≡ z). both_ways (p x) e (subst (λ (u : Name). p u ≡ true) (sym q) k))
                (λ (q : In z xs). y.2.2 z q k l)
                (In_cases z x xs i)),
          ),
        ))
        f

-- the search finds the least name of which P holds, where the list and the test have exactly those
module _ (P : Name → Type 0) (p : Name → Bool) (xs : List Name) (into : (x : Name) → P x → In x xs × (p x ≡ true)) (back : (x : Name) → In x xs → p x ≡ true → P x) where
  pub found_least : (x : Name) → least_where p xs ≡ Some x → IsLeast P x
  found_least x e =
      ⊎_elim
      (λ (n : (least_where p xs ≡ None) × IsNone p xs). absurd (none_or_some x (least_where p xs) n.0 e))
      (λ (y : (y : Name) × (least_where p xs ≡ Some y) × IsFirst p xs y).
      subst (IsLeast P) (some_same y.0 x (sym y.1 ∙ e)) (back y.0 y.2.0 y.2.1, (λ z h l. let i = into z h in y.2.2 z i.0 i.1 l)))
      (finds p xs)

  pub least_found : (x : Name) → IsLeast P x → least_where p xs ≡ Some x
  least_found x h =
      ⊎_elim
      (λ (n : (least_where p xs ≡ None) × IsNone p xs). let i = into x h.0 in absurd (both_ways (p x) (n.1 x i.0) i.1))
      (λ (y : (y : Name) × (least_where p xs ≡ Some y) × IsFirst p xs y).
      let l : IsLeast P y.0 = (back y.0 y.2.0 y.2.1, (λ z k l. let i = into z k in y.2.2 z i.0 i.1 l)) in
      y.1 ∙ ap Some (least_unique P y.0 x l h))
      (finds p xs)

  -- where P holds of a name, there is a least one
  pub least_exists : (x : Name) → P x → (y : Name) × IsLeast P y
  least_exists x h =
      ⊎_elim
      (λ (n : (least_where p xs ≡ None) × IsNone p xs). let i = into x h in absurd (both_ways (p x) (n.1 x i.0) i.1))
      (λ (y : (y : Name) × (least_where p xs ≡ Some y) × IsFirst p xs y). (y.0, (back y.0 y.2.0 y.2.1, (λ z k l. let i = into z k in y.2.2 z i.0 i.1 l))))
      (finds p xs)

-- the next of a list that begins another

pub next_prefix_of : (xs ys : List Name) (x : Name) → next_of xs ys ≡ Some x → IsPrefix (xs ++ x ∷ []) ys
next_prefix_of [] [] x e = absurd (none_or_some x None refl e)
next_prefix_of [] (y ∷ ys) x e = (ys, ap (λ (z : Name). z ∷ ys) (sym (some_same y x e)))
next_prefix_of (z ∷ xs) [] x e = absurd (none_or_some x None refl e)
next_prefix_of (z ∷ xs) (y ∷ ys) x e =
    ⊎_elim
    (λ (h : same_name z y ≡ true).
    let r = next_prefix_of xs ys x (sym (cond-true (same_name z y) (next_of xs ys) None h) ∙ e) in
    (r.0, ap (λ (u : Name). u ∷ ((xs ++ x ∷ []) ++ r.0)) (same_name-true z y h) ∙ ap (λ (l : List Name). y ∷ l) r.1))
    (λ (h : same_name z y ≡ false). absurd (none_or_some x None refl (sym (cond-false (same_name z y) (next_of xs ys) None h) ∙ e)))
    (cases_Bool (same_name z y))

after_all : (xs rest : List Name) (x : Name) → next_of xs ((xs ++ x ∷ []) ++ rest) ≡ Some x
after_all [] rest x = refl
after_all (z ∷ xs) rest x = cond-true (same_name z z) (next_of xs ((xs ++ x ∷ []) ++ rest)) None (same_name-refl z) ∙ after_all xs rest x

pub prefix_next : (xs ys : List Name) (x : Name) → IsPrefix (xs ++ x ∷ []) ys → next_of xs ys ≡ Some x
prefix_next xs ys x h = subst (λ (l : List Name). next_of xs l ≡ Some x) h.1 (after_all xs h.0 x)
