-- Lists of names as sets: what stands in them, and how many pass a test.
use Rattle.std.proofs.Common.{◌≡◌, ℕ, zero, suc, ◌+◌, ◌<◌, ◌≤◌, ◌⊎◌, Bool, true, false, cond, ◌&&◌, ◌||◌, ◌==◌, List, [], ◌∷◌, ◌++◌, count_by, filter, length, refl, sym, ap, ◌∙◌, subst, inl, inr, ⊎_elim, arith, append_assoc, append-nil}
use Rattle.std.specs.List.{list_any}
use Rattle.std.proofs.lemmas.Bool.{false≢true, eqb-true, eq-eqb, and_parts, and_from, and_right, or_cases, or_left, or_right, cases_Bool, false_from_ne_true, both_ways}
use Rattle.std.proofs.lemmas.List.Sums.{sum_by-cons}
use Rattle.mp_names.specs.declared.names.Name.{Name}
use Rattle.mp_names.specs.declared.names.Name.TheVariants.{Ctrl, Rec, Packet, Row, Group, Settled, Written}
use Rattle.mp_names.specs.declared.names.Tag.{Tag}
use Rattle.mp_names.specs.Names.{same_name, has, In, Distinct, IsPrefix, joined_below}

-- one name

pub same_tag : (a b : Tag) → a.0 ≡ b.0 → a.1 ≡ b.1 → a ≡ b
same_tag a b e f = let g : a ≡ record { 0 = b.0; 1 = a.1 } = ap (λ (n : ℕ). record a { 0 = n }) e in g ∙ ap (λ (n : ℕ). record b { 1 = n }) f

pub same_name-true : (x y : Name) → same_name x y ≡ true → x ≡ y
same_name-true (Ctrl i v) (Ctrl j w) e =
    let p = and_parts (i == j) (v == w) e in
    let a = eqb-true i j p.0 in
    let b = eqb-true v w p.1 in
    cc
same_name-true (Rec i s k a) (Rec j t l b) e =
    let p = and_parts (i == j) (s == t && (k == l && (a.0 == b.0 && a.1 == b.1))) e in
    let q = and_parts (s == t) (k == l && (a.0 == b.0 && a.1 == b.1)) p.1 in
    let r = and_parts (k == l) (a.0 == b.0 && a.1 == b.1) q.1 in
    let z = and_parts (a.0 == b.0) (a.1 == b.1) r.1 in
    let e0 = eqb-true i j p.0 in
    let e1 = eqb-true s t q.0 in
    let e2 = eqb-true k l r.0 in
    let e3 = same_tag a b (eqb-true a.0 b.0 z.0) (eqb-true a.1 b.1 z.1) in
    cc
same_name-true (Packet i a s) (Packet j b t) e =
    let p = and_parts (i == j) (a == b && s == t) e in
    let q = and_parts (a == b) (s == t) p.1 in
    let e0 = eqb-true i j p.0 in
    let e1 = eqb-true a b q.0 in
    let e2 = eqb-true s t q.1 in
    cc
same_name-true (Row s a) (Row t b) e =
    let p = and_parts (s == t) (a.0 == b.0 && a.1 == b.1) e in
    let q = and_parts (a.0 == b.0) (a.1 == b.1) p.1 in
    let e0 = eqb-true s t p.0 in
    let e1 = same_tag a b (eqb-true a.0 b.0 q.0) (eqb-true a.1 b.1 q.1) in
    cc
same_name-true (Group i s k) (Group j t l) e =
    let p = and_parts (i == j) (s == t && k == l) e in
    let q = and_parts (s == t) (k == l) p.1 in
    let e0 = eqb-true i j p.0 in
    let e1 = eqb-true s t q.0 in
    let e2 = eqb-true k l q.1 in
    cc
same_name-true (Settled i s) (Settled j t) e =
    let p = and_parts (i == j) (s == t) e in
    let e0 = eqb-true i j p.0 in
    let e1 = eqb-true s t p.1 in
    cc
same_name-true (Written s) (Written t) e = ap Written (eqb-true s t e)
same_name-true _ _ e = absurd (false≢true e)

own : (n : ℕ) → (n == n) ≡ true
own n = eq-eqb n n refl

pub same_name-refl : (x : Name) → same_name x x ≡ true
same_name-refl (Ctrl i v) = and_from (i == i) (v == v) (own i) (own v)
same_name-refl (Rec i s k a) = and_from (i == i) _ (own i) (and_from (s == s) _ (own s) (and_from (k == k) _ (own k) (and_from (a.0 == a.0) (a.1 == a.1) (own a.0) (own a.1))))
same_name-refl (Packet i a s) = and_from (i == i) _ (own i) (and_from (a == a) (s == s) (own a) (own s))
same_name-refl (Row s a) = and_from (s == s) _ (own s) (and_from (a.0 == a.0) (a.1 == a.1) (own a.0) (own a.1))
same_name-refl (Group i s k) = and_from (i == i) _ (own i) (and_from (s == s) (k == k) (own s) (own k))
same_name-refl (Settled i s) = and_from (i == i) (s == s) (own i) (own s)
same_name-refl (Written s) = own s

pub same_name-from : (x y : Name) → x ≡ y → same_name x y ≡ true
same_name-from x y e = subst (λ (z : Name). same_name x z ≡ true) e (same_name-refl x)

pub same_name_sym : (x y : Name) → same_name x y ≡ same_name y x
same_name_sym x y =
    ⊎_elim
    (λ (e : same_name x y ≡ true). e ∙ sym (same_name-from y x (sym (same_name-true x y e))))
    (λ (e : same_name x y ≡ false). e ∙ sym (false_from_ne_true (same_name y x) (λ f. both_ways (same_name x y) e (same_name-from x y (sym (same_name-true y x f))))))
    (cases_Bool (same_name x y))

-- what stands in a list

pub In_here : (x : Name) (xs : List Name) → In x (x ∷ xs)
In_here x xs = or_left (same_name x x) (has xs x) (same_name-refl x)

pub In_cases : (x y : Name) (ys : List Name) → In x (y ∷ ys) → (y ≡ x) ⊎ In x ys
In_cases x y ys h =
    ⊎_elim (λ (e : same_name y x ≡ true). inl (same_name-true y x e)) (λ (e : has ys x ≡ true). inr e) (or_cases (same_name y x) (has ys x) h)

pub In_later : (x y : Name) (ys : List Name) → In x ys → In x (y ∷ ys)
In_later x y ys h = or_right (same_name y x) (has ys x) h

pub In_left : (x : Name) (xs ys : List Name) → In x xs → In x (xs ++ ys)
In_left x [] ys h = absurd (false≢true h)
In_left x (y ∷ xs) ys h =
    ⊎_elim
    (λ (e : same_name y x ≡ true). or_left (same_name y x) (has (xs ++ ys) x) e)
    (λ (e : has xs x ≡ true). or_right (same_name y x) (has (xs ++ ys) x) (In_left x xs ys e))
    (or_cases (same_name y x) (has xs x) h)

pub In_right : (x : Name) (xs ys : List Name) → In x ys → In x (xs ++ ys)
In_right x [] ys h = h
In_right x (y ∷ xs) ys h = or_right (same_name y x) (has (xs ++ ys) x) (In_right x xs ys h)

pub In_append : (x : Name) (xs ys : List Name) → In x (xs ++ ys) → In x xs ⊎ In x ys
In_append x [] ys h = inr h
In_append x (y ∷ xs) ys h =
    ⊎_elim
    (λ (e : same_name y x ≡ true). inl (or_left (same_name y x) (has xs x) e))
    (λ (e : has (xs ++ ys) x ≡ true). ⊎_elim (λ (f : In x xs). inl (or_right (same_name y x) (has xs x) f)) (λ (f : In x ys). inr f) (In_append x xs ys e))
    (or_cases (same_name y x) (has (xs ++ ys) x) h)

pub In_prefix : (x : Name) (xs ys : List Name) → IsPrefix xs ys → In x xs → In x ys
In_prefix x xs ys p h = subst (λ (zs : List Name). In x zs) p.1 (In_left x xs p.0 h)

cons_if : (b : Bool) (x y : Name) (ys : List Name) → In x (cond b (y ∷ ys) ys) → ((b ≡ true) × (y ≡ x)) ⊎ In x ys
cons_if true x y ys h = ⊎_elim (λ (e : y ≡ x). inl (refl, e)) (λ (e : In x ys). inr e) (In_cases x y ys h)
cons_if false x y ys h = inr h

pub In_filter : (p : Name → Bool) (x : Name) (xs : List Name) → In x (filter p xs) → In x xs × (p x ≡ true)
In_filter p x [] h = absurd (false≢true h)
In_filter p x (y ∷ ys) h =
    ⊎_elim
    (λ (e : (p y ≡ true) × (y ≡ x)). (or_left (same_name y x) (has ys x) (same_name-from y x e.1), subst (λ (z : Name). p z ≡ true) e.1 e.0))
    (λ (e : In x (filter p ys)). let r = In_filter p x ys e in (or_right (same_name y x) (has ys x) r.0, r.1))
    (cons_if (p y) x y (filter p ys) h)

if_cons : (b : Bool) (x y : Name) (ys : List Name) → In x ys → In x (cond b (y ∷ ys) ys)
if_cons true x y ys h = In_later x y ys h
if_cons false x y ys h = h

here_if : (b : Bool) (x y : Name) (ys : List Name) → b ≡ true → y ≡ x → In x (cond b (y ∷ ys) ys)
here_if true x y ys b e = or_left (same_name y x) (has ys x) (same_name-from y x e)
here_if false x y ys b e = absurd (false≢true b)

pub filter_In : (p : Name → Bool) (x : Name) (xs : List Name) → In x xs → p x ≡ true → In x (filter p xs)
filter_In p x [] h e = absurd (false≢true h)
filter_In p x (y ∷ ys) h e =
    ⊎_elim
    (λ (f : y ≡ x). here_if (p y) x y (filter p ys) (subst (λ (z : Name). p z ≡ true) (sym f) e) f)
    (λ (f : In x ys). if_cons (p y) x y (filter p ys) (filter_In p x ys f e))
    (In_cases x y ys h)

pub any_from : (p : Name → Bool) (x : Name) (xs : List Name) → In x xs → p x ≡ true → list_any p xs ≡ true
any_from p x [] h e = absurd (false≢true h)
any_from p x (y ∷ ys) h e =
    ⊎_elim
    (λ (f : y ≡ x). or_left (p y) (list_any p ys) (subst (λ (z : Name). p z ≡ true) (sym f) e))
    (λ (f : In x ys). or_right (p y) (list_any p ys) (any_from p x ys f e))
    (In_cases x y ys h)

pub any_at : (p : Name → Bool) (xs : List Name) → list_any p xs ≡ true → (x : Name) × In x xs × (p x ≡ true)
any_at p [] h = absurd (false≢true h)
any_at p (y ∷ ys) h =
    ⊎_elim
    (λ (f : p y ≡ true). (y, In_here y ys, f))
    (λ (f : list_any p ys ≡ true). let r = any_at p ys f in (r.0, or_right (same_name y r.0) (has ys r.0) r.1, r.2))
    (or_cases (p y) (list_any p ys) h)

-- how many pass

abbrev one : Bool → ℕ
one b = cond b 1 0

pub counted : (p : Name → Bool) (x : Name) (xs : List Name) → count_by p (x ∷ xs) ≡ one (p x) + count_by p xs
counted p x xs = sum_by-cons (λ y. one (p y)) x xs

one_if : (b : Bool) → b ≡ true → one b ≡ 1
one_if true e = refl
one_if false e = absurd (false≢true e)

none_if : (b : Bool) → b ≡ false → one b ≡ 0
none_if true e = absurd (false≢true (sym e))
none_if false e = refl

if_none : (b : Bool) → one b ≡ 0 → b ≡ false
if_none true e = absurd (omega arith)
if_none false e = refl

pub count_none : (p : Name → Bool) (xs : List Name) → ((x : Name) → In x xs → p x ≡ false) → count_by p xs ≡ 0
count_none p [] h = refl
count_none p (y ∷ ys) h =
    let e = counted p y ys in
    let a = none_if (p y) (h y (In_here y ys)) in
    let b = count_none p ys (λ x i. h x (In_later x y ys i)) in
    omega arith

pub none_counted : (p : Name → Bool) (xs : List Name) → count_by p xs ≡ 0 → (x : Name) → In x xs → p x ≡ false
none_counted p [] h x i = absurd (false≢true i)
none_counted p (y ∷ ys) h x i =
    let e = counted p y ys in
    let a : one (p y) ≡ 0 = omega arith in
    let b : count_by p ys ≡ 0 = omega arith in
    ⊎_elim
    (λ (f : y ≡ x). subst (λ (z : Name). p z ≡ false) f (if_none (p y) a))
    (λ (f : In x ys). none_counted p ys b x f)
    (In_cases x y ys i)

pub count_split : (p q r : Name → Bool) (xs : List Name) → ((x : Name) → one (p x) ≡ one (q x) + one (r x)) → count_by p xs ≡ count_by q xs + count_by r xs
count_split p q r [] h = refl
count_split p q r (y ∷ ys) h =
    let e = counted p y ys in
    let f = counted q y ys in
    let g = counted r y ys in
    let a = h y in
    let b = count_split p q r ys h in
    omega arith

pub count_once : (x : Name) (ys : List Name) → Distinct ys → In x ys → count_by (λ y. same_name y x) ys ≡ 1
count_once x [] d i = absurd (false≢true i)
count_once x (y ∷ ys) d i =
    let e = counted (λ z. same_name z x) y ys in
    ⊎_elim
    (λ (f : same_name y x ≡ true).
    let a = one_if (same_name y x) f in
    let b = count_none (λ z. same_name z x) ys (λ z j. false_from_ne_true (same_name z x) (λ g. both_ways (has ys y) d.0 (subst (λ (u : Name). In u ys) (same_name-true z x g ∙ sym (same_name-true y x f)) j))) in
    omega arith)
    (λ (f : same_name y x ≡ false).
    let a = none_if (same_name y x) f in
    let b = count_once x ys d.1 (⊎_elim (λ (g : same_name y x ≡ true). absurd (both_ways (same_name y x) f g)) (λ (g : has ys x ≡ true). g) (or_cases (same_name y x) (has ys x) i)) in
    omega arith)
    (cases_Bool (same_name y x))

split_one : (b s h : Bool) → (s ≡ true → b ≡ true) → (s ≡ true → h ≡ false) → one (b && (s || h)) ≡ one s + one (b && h)
split_one true true true f g = absurd (false≢true (sym (g refl)))
split_one true true false f g = refl
split_one true false true f g = refl
split_one true false false f g = refl
split_one false true true f g = absurd (false≢true (f refl))
split_one false true false f g = absurd (false≢true (f refl))
split_one false false true f g = refl
split_one false false false f g = refl

skip_one : (b s h : Bool) → (s ≡ true → b ≡ false) → one (b && (s || h)) ≡ 0 + one (b && h)
skip_one true true h f = absurd (false≢true (sym (f refl)))
skip_one true false h f = omega arith
skip_one false s h f = refl

-- Of two lists that hold each name once: what passes in the one is counted over the other
pub count_inside : (p : Name → Bool) (ts ss : List Name) → Distinct ts → Distinct ss → ((x : Name) → In x ts → p x ≡ true → In x ss) → count_by p ts ≡ count_by (λ y. p y && has ts y) ss
count_inside p [] ss d e h = sym (count_none (λ y. p y && false) ss (λ x i. and_right (p x) false refl))
count_inside p (x ∷ ts) ss d e h =
    let a = counted p x ts in
    let b = count_inside p ts ss d.1 e (λ y i. h y (In_later y x ts i)) in
    ⊎_elim
    (λ (f : p x ≡ true).
    let c = one_if (p x) f in
    let g = count_split (λ y. p y && (same_name x y || has ts y)) (λ y. same_name x y) (λ y. p y && has ts y) ss (λ y. split_one (p y) (same_name x y) (has ts y) (λ s. subst (λ (z : Name). p z ≡ true) (same_name-true x y s) f) (λ s. subst (λ (z : Name). has ts z ≡ false) (same_name-true x y s) d.0)) in
    let k : count_by (λ y. same_name x y) ss ≡ count_by (λ y. same_name y x) ss = ap (λ (q : Name → Bool). count_by q ss) (λ i y. same_name_sym x y i) in
    let l = count_once x ss e (h x (In_here x ts) f) in
    omega arith)
    (λ (f : p x ≡ false).
    let c = none_if (p x) f in
    let g = count_split (λ y. p y && (same_name x y || has ts y)) (λ y. false) (λ y. p y && has ts y) ss (λ y. skip_one (p y) (same_name x y) (has ts y) (λ s. subst (λ (z : Name). p z ≡ false) (same_name-true x y s) f)) in
    let k = count_none (λ y. false) ss (λ y i. refl) in
    omega arith)
    (cases_Bool (p x))

and_le : (a b : Bool) → one (a && b) ≤ one a
and_le true true = omega arith
and_le true false = omega arith
and_le false b = omega arith

pub count_both-le : (p q : Name → Bool) (xs : List Name) → count_by (λ y. p y && q y) xs ≤ count_by p xs
count_both-le p q [] = omega arith
count_both-le p q (x ∷ xs) =
    let a = counted p x xs in
    let b = counted (λ y. p y && q y) x xs in
    let c = and_le (p x) (q x) in
    let d = count_both-le p q xs in
    omega arith

both_if : (a b : Bool) → one (a && b) ≡ one a → a ≡ true → b ≡ true
both_if true true e f = refl
both_if true false e f = absurd (omega arith)
both_if false b e f = absurd (false≢true f)

pub count_whole : (p q : Name → Bool) (xs : List Name) → count_by p xs ≡ count_by (λ y. p y && q y) xs → (x : Name) → In x xs → p x ≡ true → q x ≡ true
count_whole p q [] h x i f = absurd (false≢true i)
count_whole p q (y ∷ ys) h x i f =
    let a = counted p y ys in
    let b = counted (λ z. p z && q z) y ys in
    let c = and_le (p y) (q y) in
    let d = count_both-le p q ys in
    let e : one (p y && q y) ≡ one (p y) = omega arith in
    let g : count_by p ys ≡ count_by (λ z. p z && q z) ys = omega arith in
    ⊎_elim
    (λ (k : y ≡ x). subst (λ (z : Name). q z ≡ true) k (both_if (p y) (q y) e (subst (λ (z : Name). p z ≡ true) (sym k) f)))
    (λ (k : In x ys). count_whole p q ys g x k f)
    (In_cases x y ys i)

-- a list that holds each name once, and as many of them as another that has them all, has them all
pub all_there : (p : Name → Bool) (ts ss : List Name) → Distinct ts → Distinct ss → ((x : Name) → In x ts → p x ≡ true → In x ss) → count_by p ss ≡ count_by p ts → (x : Name) → In x ss → p x ≡ true → In x ts
all_there p ts ss d e h c = count_whole p (has ts) ss (c ∙ count_inside p ts ss d e h)

and_all : (a b : Bool) → (a ≡ true → b ≡ true) → (a && b) ≡ a
and_all true b h = h refl
and_all false b h = refl

pub count_agree : (p q : Name → Bool) (xs : List Name) → ((x : Name) → In x xs → p x ≡ q x) → count_by p xs ≡ count_by q xs
count_agree p q [] h = refl
count_agree p q (y ∷ ys) h =
    let a = counted p y ys in
    let b = counted q y ys in
    let c = ap one (h y (In_here y ys)) in
    let d = count_agree p q ys (λ x i. h x (In_later x y ys i)) in
    omega arith

pub same_count : (p : Name → Bool) (ts ss : List Name) → Distinct ts → Distinct ss → ((x : Name) → In x ts → p x ≡ true → In x ss) → ((x : Name) → In x ss → p x ≡ true → In x ts) → count_by p ss ≡ count_by p ts
same_count p ts ss d e h k = sym (count_inside p ts ss d e h ∙ count_agree (λ y. p y && has ts y) p ss (λ x i. and_all (p x) (has ts x) (k x i)))

passed_one : (b : Bool) → b ≡ true → cond {A = ℕ} b 1 0 ≡ 1
passed_one true e = refl
passed_one false e = absurd (false≢true e)

-- where all pass as many do as there are
pub all_counted : (p : Name → Bool) (xs : List Name) → ((x : Name) → In x xs → p x ≡ true) → count_by p xs ≡ length xs
all_counted p [] h = refl
all_counted p (x ∷ xs) h =
    let a = counted p x xs in
    let b = passed_one (p x) (h x (In_here x xs)) in
    let c = all_counted p xs (λ y i. h y (In_later y x xs i)) in
    omega arith

-- lists that are joined, mapped and gathered

pub In_joined : (n : ℕ) (f : ℕ → List Name) (x : Name) → In x (joined_below n f) → (w : ℕ) × (w < n) × In x (f w)
In_joined zero f x h = absurd (false≢true h)
In_joined (suc n) f x h =
    ⊎_elim
    (λ (i : In x (joined_below n f)). let r = In_joined n f x i in let l = r.1 in (r.0, omega arith, r.2))
    (λ (i : In x (f n)). (n, omega arith, i))
    (In_append x (joined_below n f) (f n) h)

below_cases : (w n : ℕ) → w < suc n → (w < n) ⊎ (w ≡ n)
below_cases w n l = grind arith

pub joined_In : (n : ℕ) (f : ℕ → List Name) (x : Name) (w : ℕ) → w < n → In x (f w) → In x (joined_below n f)
joined_In zero f x w l h = absurd (omega arith)
joined_In (suc n) f x w l h =
    ⊎_elim
    (λ (k : w < n). In_left x (joined_below n f) (f n) (joined_In n f x w k h))
    (λ (e : w ≡ n). In_right x (joined_below n f) (f n) (subst (λ (v : ℕ). In x (f v)) e h))
    (below_cases w n l)

pub Distinct_append : (xs ys : List Name) → Distinct xs → Distinct ys → ((x : Name) → In x xs → has ys x ≡ false) → Distinct (xs ++ ys)
Distinct_append [] ys d e h = e
Distinct_append (x ∷ xs) ys d e h = (
  false_from_ne_true (has (xs ++ ys) x) (λ i. ⊎_elim (λ (j : In x xs). both_ways (has xs x) d.0 j) (λ (j : In x ys). both_ways (has ys x) (h x (In_here x xs)) j) (In_append x xs ys i)),
  Distinct_append xs ys d.1 e (λ y i. h y (In_later y x xs i)),
)

-- lists that no name has in common, since each name has one home
pub Distinct_joined : (n : ℕ) (f : ℕ → List Name) (home : Name → ℕ) → ((w : ℕ) → w < n → Distinct (f w)) → ((w : ℕ) (x : Name) → w < n → In x (f w) → home x ≡ w) → Distinct (joined_below n f)
Distinct_joined zero f home d h = tt
Distinct_joined (suc n) f home d h =
    Distinct_append (joined_below n f) (f n)
    (Distinct_joined n f home (λ w l. d w (omega arith)) (λ w x l. h w x (omega arith)))
    (d n (omega arith))
    (λ x i. false_from_ne_true (has (f n) x) (λ j.
    let r = In_joined n f x i in
    let l = r.1 in
    let a = h r.0 x (omega arith) r.2 in
    let b = h n x (omega arith) j in
    omega arith))

pub In_push : (x y : Name) (xs : List Name) → In x (xs ++ y ∷ []) → In x xs ⊎ (y ≡ x)
In_push x y xs h = ⊎_elim (λ (i : In x xs). inl i) (λ (i : In x (y ∷ [])). ⊎_elim (λ (e : y ≡ x). inr e) (λ (j : In x []). absurd (false≢true j)) (In_cases x y [] i)) (In_append x xs (y ∷ []) h)

pub Distinct_push : (xs : List Name) (x : Name) → Distinct xs → has xs x ≡ false → Distinct (xs ++ x ∷ [])
Distinct_push xs x d h = Distinct_append xs (x ∷ []) d (refl, tt) (λ y i. false_from_ne_true (has (x ∷ []) y) (λ j. ⊎_elim (λ (e : x ≡ y). both_ways (has xs x) h (subst (λ (z : Name). In z xs) (sym e) i)) (λ (k : In y []). false≢true k) (In_cases y x [] j)))

filter_one : (b : Bool) (x : Name) (xs : List Name) → (b ≡ true → has xs x ≡ false) → Distinct xs → Distinct (cond b (x ∷ xs) xs)
filter_one true x xs h d = (h refl, d)
filter_one false x xs h d = d

pub Distinct_filter : (p : Name → Bool) (xs : List Name) → Distinct xs → Distinct (filter p xs)
Distinct_filter p [] d = tt
Distinct_filter p (x ∷ xs) d =
    filter_one (p x) x (filter p xs) (λ e. false_from_ne_true (has (filter p xs) x) (λ i. both_ways (has xs x) d.0 (In_filter p x xs i).0)) (Distinct_filter p xs d.1)

-- beginnings

pub prefix_refl : {X : Type 0} (xs : List X) → IsPrefix xs xs
prefix_refl xs = ([], append-nil xs)

pub prefix_push : {X : Type 0} (xs : List X) (x : X) → IsPrefix xs (xs ++ x ∷ [])
prefix_push xs x = (x ∷ [], refl)

pub prefix_trans : {X : Type 0} (xs ys zs : List X) → IsPrefix xs ys → IsPrefix ys zs → IsPrefix xs zs
prefix_trans {X} xs ys zs p q = (p.0 ++ q.0, sym (append_assoc xs p.0 q.0) ∙ ap (λ (l : List X). l ++ q.0) p.1 ∙ q.1)
