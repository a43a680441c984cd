-- The order of names, lists that are ascending, and the least name of a list.
use Rattle.std.proofs.Common.{◌≡◌, ℕ, ◌<◌, ◌⊎◌, ◌==◌, nat_lt, Bool, true, false, cond, ◌&&◌, List, [], ◌∷◌, ◌++◌, filter, refl, sym, ap, ◌∙◌, subst, inl, inr, ⊎_elim, append_assoc, append-nil, arith}
use Rattle.std.proofs.lemmas.Bool.{false≢true, eqb-true, eq-eqb, ltb-true, lt-ltb, and_parts, and_from, or_cases, or_left, or_right, both_ways, cases_Bool, cases_order, false_from_ne_true}
use Rattle.mp_names.specs.declared.names.Name.{Name}
use Rattle.mp_names.specs.declared.names.Name.TheVariants.{Ctrl, Rec, Packet, Row, Group, Settled, Written}
use Rattle.mp_names.specs.Names.{same_name, has, In, Distinct, IsPrefix, rank_of, IsBefore, is_before, Less, IsAscending, placed, ascending, IsLeast}
use Rattle.mp_names.proofs.Lists.{same_tag, same_name-true, same_name-from, In_here, In_later, In_cases, In_right, In_append, In_filter}

-- lists of numbers

pub before_is : (xs ys : List ℕ) → is_before xs ys ≡ true → IsBefore xs ys
before_is [] [] h = absurd (false≢true h)
before_is (x ∷ xs) [] h = absurd (false≢true h)
before_is [] (y ∷ ys) h = tt
before_is (x ∷ xs) (y ∷ ys) h =
    ⊎_elim
    (λ (e : nat_lt x y ≡ true). inl (ltb-true x y e))
    (λ (e : (x == y && is_before xs ys) ≡ true). let p = and_parts (x == y) (is_before xs ys) e in inr (eqb-true x y p.0, before_is xs ys p.1))
    (or_cases (nat_lt x y) (x == y && is_before xs ys) h)

pub is_before-from : (xs ys : List ℕ) → IsBefore xs ys → is_before xs ys ≡ true
is_before-from [] [] h = absurd h
is_before-from (x ∷ xs) [] h = absurd h
is_before-from [] (y ∷ ys) h = refl
is_before-from (x ∷ xs) (y ∷ ys) h =
    ⊎_elim
    (λ (e : x < y). or_left (nat_lt x y) (x == y && is_before xs ys) (lt-ltb x y e))
    (λ (e : (x ≡ y) × IsBefore xs ys). or_right (nat_lt x y) (x == y && is_before xs ys) (and_from (x == y) (is_before xs ys) (eq-eqb x y e.0) (is_before-from xs ys e.1)))
    h

pub before_irreflexive : (xs : List ℕ) → IsBefore xs xs → ⊥
before_irreflexive [] h = h
before_irreflexive (x ∷ xs) h = ⊎_elim (λ (e : x < x). omega arith) (λ (e : (x ≡ x) × IsBefore xs xs). before_irreflexive xs e.1) h

pub before_trans : (xs ys zs : List ℕ) → IsBefore xs ys → IsBefore ys zs → IsBefore xs zs
before_trans xs ys [] h k = none ys k
  where
    none : (ys : List ℕ) → IsBefore ys [] → ⊥
    none [] k = k
    none (y ∷ ys) k = k
before_trans [] ys (z ∷ zs) h k = tt
before_trans (x ∷ xs) [] (z ∷ zs) h k = absurd h
before_trans (x ∷ xs) (y ∷ ys) (z ∷ zs) h k =
    ⊎_elim
    (λ (e : x < y). ⊎_elim (λ (f : y < z). inl (omega arith)) (λ (f : (y ≡ z) × IsBefore ys zs). let g = f.0 in inl (omega arith)) k)
    (λ (e : (x ≡ y) × IsBefore xs ys).
    let d = e.0 in
    ⊎_elim (λ (f : y < z). inl (omega arith)) (λ (f : (y ≡ z) × IsBefore ys zs). inr (d ∙ f.0, before_trans xs ys zs e.1 f.1)) k)
    h

pub before_connected : (xs ys : List ℕ) → (xs ≡ ys) ⊎ (IsBefore xs ys ⊎ IsBefore ys xs)
before_connected [] [] = inl refl
before_connected [] (y ∷ ys) = inr (inl tt)
before_connected (x ∷ xs) [] = inr (inr tt)
before_connected (x ∷ xs) (y ∷ ys) =
    ⊎_elim
    (λ (e : x ≡ y).
    ⊎_elim
    (λ (f : xs ≡ ys). inl (cc))
    (λ (f : IsBefore xs ys ⊎ IsBefore ys xs). ⊎_elim (λ (g : IsBefore xs ys). inr (inl (inr (e, g)))) (λ (g : IsBefore ys xs). inr (inr (inr (sym e, g)))) f)
    (before_connected xs ys))
    (λ (e : (x < y) ⊎ (y < x)). ⊎_elim (λ (f : x < y). inr (inl (inl f))) (λ (f : y < x). inr (inr (inl f))) e)
    (cases_order x y)

-- names

pub less_irreflexive : (x : Name) → Less x x → ⊥
less_irreflexive x h = before_irreflexive (rank_of x) h

pub less_trans : (x y z : Name) → Less x y → Less y z → Less x z
less_trans x y z h k = before_trans (rank_of x) (rank_of y) (rank_of z) h k

-- the rank tells the name
ranked : (x y : Name) → rank_of x ≡ rank_of y → x ≡ y
ranked (Ctrl i v) (Ctrl j w) e = cc
ranked (Rec i s k a) (Rec j t l b) e = let f : a ≡ b = same_tag a b (cc) (cc) in cc
ranked (Packet i a s) (Packet j b t) e = cc
ranked (Row s a) (Row t b) e = let f : a ≡ b = same_tag a b (cc) (cc) in cc
ranked (Group i s k) (Group j t l) e = cc
ranked (Settled i s) (Settled j t) e = cc
ranked (Written s) (Written t) e = cc
ranked _ _ e = absurd (cc)

pub less_connected : (x y : Name) → (x ≡ y) ⊎ (Less x y ⊎ Less y x)
less_connected x y = ⊎_elim (λ (e : rank_of x ≡ rank_of y). inl (ranked x y e)) (λ (h : Less x y ⊎ Less y x). inr h) (before_connected (rank_of x) (rank_of y))

-- ascending lists

In_cond : (b : Bool) (x : Name) (xs ys : List Name) → In x (cond b xs ys) → In x xs ⊎ In x ys
In_cond true x xs ys h = inl h
In_cond false x xs ys h = inr h

cond_In : (P : List Name → Type 0) (b : Bool) (xs ys : List Name) → (b ≡ true → P xs) → (b ≡ false → P ys) → P (cond b xs ys)
cond_In P true xs ys h k = h refl
cond_In P false xs ys h k = k refl

In_placed : (y x : Name) (xs : List Name) → In y (placed x xs) → (x ≡ y) ⊎ In y xs
In_placed y x [] h = In_cases y x [] h
In_placed y x (z ∷ zs) h =
    ⊎_elim
    (λ (i : In y (z ∷ zs)). inr i)
    (λ (i : In y (cond (is_before (rank_of x) (rank_of z)) (x ∷ z ∷ zs) (z ∷ placed x zs))).
    ⊎_elim
    (λ (k : In y (x ∷ z ∷ zs)). In_cases y x (z ∷ zs) k)
    (λ (k : In y (z ∷ placed x zs)).
    ⊎_elim
    (λ (e : z ≡ y). inr (subst (λ (u : Name). In u (z ∷ zs)) e (In_here z zs)))
    (λ (l : In y (placed x zs)). ⊎_elim (λ (e : x ≡ y). inl e) (λ (m : In y zs). inr (In_later y z zs m)) (In_placed y x zs l))
    (In_cases y z (placed x zs) k))
    (In_cond (is_before (rank_of x) (rank_of z)) y (x ∷ z ∷ zs) (z ∷ placed x zs) i))
    (In_cond (same_name x z) y (z ∷ zs) (cond (is_before (rank_of x) (rank_of z)) (x ∷ z ∷ zs) (z ∷ placed x zs)) h)

placed_here : (x : Name) (xs : List Name) → In x (placed x xs)
placed_here x [] = In_here x []
placed_here x (z ∷ zs) =
    cond_In (In x) (same_name x z) (z ∷ zs) (cond (is_before (rank_of x) (rank_of z)) (x ∷ z ∷ zs) (z ∷ placed x zs))
    (λ e. subst (λ (u : Name). In u (z ∷ zs)) (sym (same_name-true x z e)) (In_here z zs))
    (λ e. cond_In (In x) (is_before (rank_of x) (rank_of z)) (x ∷ z ∷ zs) (z ∷ placed x zs) (λ f. In_here x (z ∷ zs)) (λ f. In_later x z (placed x zs) (placed_here x zs)))

placed_In : (y x : Name) (xs : List Name) → In y xs → In y (placed x xs)
placed_In y x [] h = absurd (false≢true h)
placed_In y x (z ∷ zs) h =
    cond_In (In y) (same_name x z) (z ∷ zs) (cond (is_before (rank_of x) (rank_of z)) (x ∷ z ∷ zs) (z ∷ placed x zs))
    (λ e. h)
    (λ e. cond_In (In y) (is_before (rank_of x) (rank_of z)) (x ∷ z ∷ zs) (z ∷ placed x zs) (λ f. In_later y x (z ∷ zs) h) (λ f. ⊎_elim (λ (g : z ≡ y). subst (λ (u : Name). In u (z ∷ placed x zs)) g (In_here z (placed x zs))) (λ (g : In y zs). In_later y z (placed x zs) (placed_In y x zs g)) (In_cases y z zs h)))

placed_ascends : (x : Name) (xs : List Name) → IsAscending xs → IsAscending (placed x xs)
placed_ascends x [] h = ((λ y i. absurd (false≢true i)), tt)
placed_ascends x (z ∷ zs) h =
    cond_In IsAscending (same_name x z) (z ∷ zs) (cond (is_before (rank_of x) (rank_of z)) (x ∷ z ∷ zs) (z ∷ placed x zs))
    (λ e. h)
    (λ e. cond_In IsAscending (is_before (rank_of x) (rank_of z)) (x ∷ z ∷ zs) (z ∷ placed x zs) (λ f. (first (before_is (rank_of x) (rank_of z) f), h)) (λ f. (later (after e f), placed_ascends x zs h.1)))
  where
    first : Less x z → (y : Name) → In y (z ∷ zs) → Less x y
    first l y i = ⊎_elim (λ (e : z ≡ y). subst (λ (u : Name). Less x u) e l) (λ (k : In y zs). less_trans x z y l (h.0 y k)) (In_cases y z zs i)

    after : same_name x z ≡ false → is_before (rank_of x) (rank_of z) ≡ false → Less z x
    after e f =
        ⊎_elim
        (λ (g : x ≡ z). absurd (both_ways (same_name x z) e (same_name-from x z g)))
        (λ (g : Less x z ⊎ Less z x). ⊎_elim (λ (l : Less x z). absurd (both_ways (is_before (rank_of x) (rank_of z)) f (is_before-from (rank_of x) (rank_of z) l))) (λ (l : Less z x). l) g)
        (less_connected x z)

    later : Less z x → (y : Name) → In y (placed x zs) → Less z y
    later l y i = ⊎_elim (λ (e : x ≡ y). subst (λ (u : Name). Less z u) e l) (λ (k : In y zs). h.0 y k) (In_placed y x zs i)

pub ascending_ascends : (xs : List Name) → IsAscending (ascending xs)
unfolding ascending
ascending_ascends [] = tt
ascending_ascends (x ∷ xs) = placed_ascends x (ascending xs) (ascending_ascends xs)

pub In_ascending : (y : Name) (xs : List Name) → In y (ascending xs) → In y xs
unfolding ascending
In_ascending y [] h = h
In_ascending y (x ∷ xs) h =
    ⊎_elim (λ (e : x ≡ y). subst (λ (u : Name). In u (x ∷ xs)) e (In_here x xs)) (λ (i : In y (ascending xs)). In_later y x xs (In_ascending y xs i)) (In_placed y x (ascending xs) h)

pub ascending_In : (y : Name) (xs : List Name) → In y xs → In y (ascending xs)
unfolding ascending
ascending_In y [] h = h
ascending_In y (x ∷ xs) h =
    ⊎_elim (λ (e : x ≡ y). subst (λ (u : Name). In u (placed x (ascending xs))) e (placed_here x (ascending xs))) (λ (i : In y xs). placed_In y x (ascending xs) (ascending_In y xs i)) (In_cases y x xs h)

pub ascending_once : (xs : List Name) → IsAscending xs → Distinct xs
ascending_once [] h = tt
ascending_once (x ∷ xs) h = (false_from_ne_true (has xs x) (λ i. less_irreflexive x (h.0 x i)), ascending_once xs h.1)

pub filter_ascends : (p : Name → Bool) (xs : List Name) → IsAscending xs → IsAscending (filter p xs)
filter_ascends p [] h = tt
filter_ascends p (x ∷ xs) h =
    cond_In IsAscending (p x) (x ∷ filter p xs) (filter p xs) (λ e. ((λ y i. h.0 y (In_filter p y xs i).0), filter_ascends p xs h.1)) (λ e. filter_ascends p xs h.1)

rest_ascends : (xs ys : List Name) → IsAscending (xs ++ ys) → IsAscending ys
rest_ascends [] ys h = h
rest_ascends (x ∷ xs) ys h = rest_ascends xs ys h.1

pub before_rest : (xs ys : List Name) → IsAscending (xs ++ ys) → (x y : Name) → In x xs → In y ys → Less x y
before_rest [] ys h x y i k = absurd (false≢true i)
before_rest (z ∷ xs) ys h x y i k =
    ⊎_elim
    (λ (e : z ≡ x). subst (λ (u : Name). Less u y) e (h.0 y (In_right y xs ys k)))
    (λ (j : In x xs). before_rest xs ys h.1 x y j k)
    (In_cases x z xs i)

-- the beginning of an ascending list, with the first name that isn't in it
pub next_prefix : (xs ys : List Name) (x : Name) → IsAscending ys → IsPrefix xs ys → In x ys → has xs x ≡ false → ((y : Name) → In y ys → Less y x → In y xs) → IsPrefix (xs ++ x ∷ []) ys
next_prefix xs ys x s p i n h = go p.0 p.1
  where
    go : (rest : List Name) → xs ++ rest ≡ ys → IsPrefix (xs ++ x ∷ []) ys
    go [] e = absurd (both_ways (has xs x) n (subst (λ (l : List Name). In x l) (sym e ∙ append-nil xs) i))
    go (r ∷ rest) e =
        let sorted = subst IsAscending (sym e) s in
        let there = subst (λ (l : List Name). In x l) (sym e) i in
        let at : (r ≡ x) ⊎ In x rest = ⊎_elim (λ (k : In x xs). absurd (both_ways (has xs x) n k)) (λ (k : In x (r ∷ rest)). In_cases x r rest k) (In_append x xs (r ∷ rest) there) in
        ⊎_elim
        (λ (k : r ≡ x). (rest, append_assoc xs (x ∷ []) rest ∙ ap (λ (z : Name). xs ++ z ∷ rest) (sym k) ∙ e))
        (λ (k : In x rest).
        let less = (rest_ascends xs (r ∷ rest) sorted).0 x k in
        let here = In_here r rest in
        let in_front = h r (subst (λ (l : List Name). In r l) e (In_right r xs (r ∷ rest) here)) less in
        absurd (less_irreflexive r (before_rest xs (r ∷ rest) sorted r r in_front here)))
        at

-- two ascending lists of the same names are one list
pub ascending_unique : (xs ys : List Name) → IsAscending xs → IsAscending ys → ((z : Name) → In z xs → In z ys) → ((z : Name) → In z ys → In z xs) → xs ≡ ys
ascending_unique [] [] h k f g = refl
ascending_unique [] (y ∷ ys) h k f g = absurd (false≢true (g y (In_here y ys)))
ascending_unique (x ∷ xs) [] h k f g = absurd (false≢true (f x (In_here x xs)))
ascending_unique (x ∷ xs) (y ∷ ys) h k f g =
    ⊎_elim
    (λ (e : x ≡ y).
    let rest = ascending_unique xs ys h.1 k.1 (tail xs ys x y h (sym e) f) (tail ys xs y x k e g) in
    cc)
    (λ (l : Less x y ⊎ Less y x).
    absurd (⊎_elim (λ (a : Less x y). first ys x y k a (f x (In_here x xs))) (λ (a : Less y x). first xs y x h a (g y (In_here y ys))) l))
    (less_connected x y)
  where
    -- what comes before the head of an ascending list isn't in it
    first : (ys : List Name) (x y : Name) → IsAscending (y ∷ ys) → Less x y → In x (y ∷ ys) → ⊥
    first ys x y k a i =
        ⊎_elim (λ (e : y ≡ x). less_irreflexive x (subst (λ (u : Name). Less x u) e a)) (λ (j : In x ys). less_irreflexive x (less_trans x y x a (k.0 x j))) (In_cases x y ys i)

    tail : (xs ys : List Name) (x y : Name) → IsAscending (x ∷ xs) → y ≡ x → ((z : Name) → In z (x ∷ xs) → In z (y ∷ ys)) → (z : Name) → In z xs → In z ys
    tail xs ys x y h e f z i =
        ⊎_elim (λ (d : y ≡ z). absurd (less_irreflexive x (subst (λ (u : Name). Less x u) (sym d ∙ e) (h.0 z i)))) (λ (j : In z ys). j) (In_cases z y ys (f z (In_later z x xs i)))

-- the first name of a list that passes a test

abbrev pub IsNone : (Name → Bool) → List Name → Type 0
IsNone p xs = (z : Name) → In z xs → p z ≡ false

abbrev pub First : (Name → Bool) → List Name → Type 0
First p xs = (y : Name) × In y xs × (p y ≡ true) × ((z : Name) → In z xs → p z ≡ true → Less z y → ⊥)

-- none passes, or one that does is the least
pub first_of_list : (p : Name → Bool) (xs : List Name) → IsNone p xs ⊎ First p xs
first_of_list p [] = inl (λ z i. absurd (false≢true i))
first_of_list p (x ∷ xs) =
    ⊎_elim
    (λ (e : p x ≡ true). ⊎_elim (λ (n : IsNone p xs). inr (alone e n)) (λ (f : First p xs). inr (both e f)) (first_of_list p xs))
    (λ (e : p x ≡ false).
    ⊎_elim
    (λ (n : IsNone p xs). inl (λ z i. ⊎_elim (λ (q : x ≡ z). subst (λ (u : Name). p u ≡ false) q e) (λ (q : In z xs). n z q) (In_cases z x xs i)))
    (λ (f : First p xs). inr (f.0, In_later f.0 x xs f.1, f.2, (λ z i h l. ⊎_elim (λ (q : x ≡ z). both_ways (p x) e (subst (λ (u : Name). p u ≡ true) (sym q) h)) (λ (q : In z xs). f.3 z q h l) (In_cases z x xs i))))
    (first_of_list p xs))
    (cases_Bool (p x))
  where
    alone : p x ≡ true → IsNone p xs → First p (x ∷ xs)
    alone e n = (x, In_here x xs, e, (λ z i h l. ⊎_elim (λ (q : x ≡ z). less_irreflexive x (subst (λ (u : Name). Less u x) (sym q) l)) (λ (q : In z xs). both_ways (p z) (n z q) h) (In_cases z x xs i)))

    both : p x ≡ true → First p xs → First p (x ∷ xs)
    both e f =
        ⊎_elim
        (λ (g : is_before (rank_of x) (rank_of f.0) ≡ true).
        (x, In_here x xs, e, (λ z i h l. ⊎_elim (λ (q : x ≡ z). less_irreflexive x (subst (λ (u : Name). Less u x) (sym q) l)) (λ (q : In z xs). f.3 z q h (less_trans z x f.0 l (before_is (rank_of x) (rank_of f.0) g))) (In_cases z x xs i))))
        (λ (g : is_before (rank_of x) (rank_of f.0) ≡ false).
        (f.0, In_later f.0 x xs f.1, f.2, (λ z i h l. ⊎_elim (λ (q : x ≡ z). both_ways (is_before (rank_of x) (rank_of f.0)) g (is_before-from (rank_of x) (rank_of f.0) (subst (λ (u : Name). Less u f.0) (sym q) l))) (λ (q : In z xs). f.3 z q h l) (In_cases z x xs i))))
        (cases_Bool (is_before (rank_of x) (rank_of f.0)))

-- only one name is the least
pub least_unique : (P : Name → Type 0) (x y : Name) → IsLeast P x → IsLeast P y → x ≡ y
least_unique P x y h k =
    ⊎_elim (λ (e : x ≡ y). e) (λ (l : Less x y ⊎ Less y x). absurd (⊎_elim (λ (a : Less x y). k.1 x h.0 a) (λ (a : Less y x). h.1 y k.0 a) l)) (less_connected x y)
