-- Sums over workers and stages, and counts of lists that are divided among workers.
use Rattle.std.proofs.Common.{◌≡◌, ℕ, zero, suc, ◌+◌, ◌*◌, ◌<◌, ◌≤◌, ◌&&◌, ◌==◌, Bool, true, false, cond, List, [], ◌∷◌, filter, count_by, refl, sym, ap, ◌∙◌, ⊎_elim, arith, suc-mul, zero-mul, mul-zero, zero-add, length, sum_by}
use Rattle.std.proofs.lemmas.Bool.{and_parts, eq-eqb, ne_eqb, cases_lt}
use Rattle.std.proofs.lemmas.List.Sums.{sum_by-append, sum_by-cons}
use Rattle.mp_names.specs.declared.controls.Control.{Control}
use Rattle.mp_names.specs.declared.names.Name.{Name}
use Rattle.mp_names.specs.Controls.{control_of}
use Rattle.mp_names.specs.Names.{In, Distinct, joined_below}
use Rattle.mp_names.proofs.Lists.{In_here, In_later, counted, count_agree, same_count}
use Rattle.mp_player_laws.specs.WorkLeft.{added_below}

abbrev one : Bool → ℕ
one b = cond b 1 0

-- Sums

pub same_sum : (n : ℕ) (f g : ℕ → ℕ) → ((w : ℕ) → w < n → f w ≡ g w) → added_below n f ≡ added_below n g
same_sum zero f g h = refl
same_sum (suc n) f g h =
    let a = same_sum n f g (λ w l. h w (omega arith)) in
    let b = h n (omega arith) in
    omega arith

pub sum_of_both : (n : ℕ) (f g : ℕ → ℕ) → added_below n (λ w. f w + g w) ≡ added_below n f + added_below n g
sum_of_both zero f g = refl
sum_of_both (suc n) f g = let a = sum_of_both n f g in omega arith

pub sum_of_same : (n c : ℕ) → added_below n (λ w. c) ≡ n * c
sum_of_same zero c = sym (zero-mul c)
sum_of_same (suc n) c =
    let a = sum_of_same n c in
    let b = suc-mul n c in
    omega arith

pub sum_of_none : (n : ℕ) (f : ℕ → ℕ) → ((w : ℕ) → w < n → f w ≡ 0) → added_below n f ≡ 0
sum_of_none zero f h = refl
sum_of_none (suc n) f h =
    let a = sum_of_none n f (λ w l. h w (omega arith)) in
    let b = h n (omega arith) in
    omega arith

here_only : (i j : ℕ) (f : ℕ → ℕ) → i ≡ j → cond (i == j) (f j) 0 ≡ f i
here_only i j f e = ap (λ (b : Bool). cond b (f j) 0) (eq-eqb i j e) ∙ ap f (sym e)

not_here : (i j n : ℕ) → (i ≡ j → ⊥) → cond (i == j) n 0 ≡ 0
not_here i j n h = ap (λ (b : Bool). cond b n 0) (ne_eqb i j h)

-- of one stage alone
pub one_beyond : (n i : ℕ) (f : ℕ → ℕ) → n ≤ i → added_below n (λ j. cond (i == j) (f j) 0) ≡ 0
one_beyond n i f l = sum_of_none n (λ j. cond (i == j) (f j) 0) (λ j k. not_here i j (f j) (λ (e : i ≡ j). omega arith))

pub one_within : (n i : ℕ) (f : ℕ → ℕ) → i < n → added_below n (λ j. cond (i == j) (f j) 0) ≡ f i
one_within zero i f l = absurd (omega arith)
one_within (suc n) i f l =
    ⊎_elim
    (λ (k : i < n). let a = one_within n i f k in let b = not_here i n (f n) (λ (e : i ≡ n). omega arith) in omega arith)
    (λ (k : n ≤ i). let a = one_beyond n i f k in let b = here_only i n f (omega arith) in omega arith)
    (cases_lt i n)

-- Counts

count_if : (p : Name → Bool) (b : Bool) (y : Name) (ys : List Name) → count_by p (cond b (y ∷ ys) ys) ≡ cond b (one (p y)) 0 + count_by p ys
count_if p true y ys = counted p y ys
count_if p false y ys = sym (zero-add (count_by p ys))

one_of_both : (a b : Bool) → cond a (one b) 0 ≡ one (a && b)
one_of_both true b = refl
one_of_both false b = refl

pub count_filter : (p k : Name → Bool) (xs : List Name) → count_by p (filter k xs) ≡ count_by (λ x. k x && p x) xs
count_filter p k [] = refl
count_filter p k (y ∷ ys) =
    let a = count_if p (k y) y (filter k ys) in
    let b = one_of_both (k y) (p y) in
    let c = count_filter p k ys in
    let d = counted (λ x. k x && p x) y ys in
    omega arith

-- each name of the list is of one of the first n numbers, so all these together have them all
pub by_owner : (n : ℕ) (q : ℕ → Name → Bool) (f : Name → ℕ) (p : Name → Bool) (xs : List Name) → ((x : Name) → In x xs → f x < n) → ((x : Name) → In x xs → (w : ℕ) → q w x ≡ (f x == w)) → added_below n (λ w. count_by p (filter (q w) xs)) ≡ count_by p xs
by_owner n q f p [] below is = sum_of_none n (λ w. 0) (λ w l. refl)
by_owner n q f p (y ∷ ys) below is =
    let a =
    same_sum n (λ w. count_by p (filter (q w) (y ∷ ys))) (λ w. cond (f y == w) (one (p y)) 0 + count_by p (filter (q w) ys))
    (λ w l. count_if p (q w y) y (filter (q w) ys) ∙ ap (λ (b : Bool). cond b (one (p y)) 0 + count_by p (filter (q w) ys)) (is y (In_here y ys) w))
    in
    let b = sum_of_both n (λ w. cond (f y == w) (one (p y)) 0) (λ w. count_by p (filter (q w) ys)) in
    let c = one_within n (f y) (λ w. one (p y)) (below y (In_here y ys)) in
    let d = by_owner n q f p ys (λ x i. below x (In_later x y ys i)) (λ x i. is x (In_later x y ys i)) in
    let e = counted p y ys in
    omega arith

-- those of a kind, divided by owner
pub kind_by_owner : (n : ℕ) (f : Name → ℕ) (k p : Name → Bool) (xs : List Name) → ((x : Name) → In x xs → f x < n) → added_below n (λ w. count_by p (filter k (filter (λ x. f x == w) xs))) ≡ count_by (λ x. k x && p x) xs
kind_by_owner n f k p xs below =
    same_sum n (λ w. count_by p (filter k (filter (λ x. f x == w) xs))) (λ w. count_by (λ x. k x && p x) (filter (λ x. f x == w) xs)) (λ w l. count_filter p k (filter (λ x. f x == w) xs))
    ∙ by_owner n (λ w x. f x == w) f (λ x. k x && p x) xs below (λ x i w. refl)

-- a part of a list is all of its names of a kind
pub count_kind : (k p : Name → Bool) (xs part : List Name) → Distinct xs → Distinct part → ((x : Name) → In x part → In x xs × (k x ≡ true)) → ((x : Name) → In x xs → k x ≡ true → In x part) → count_by (λ x. k x && p x) xs ≡ count_by p part
count_kind k p xs part once each into back =
    same_count (λ x. k x && p x) part xs each once (λ x i e. (into x i).0) (λ x i e. back x i (and_parts (k x) (p x) e).0)
    ∙ count_agree (λ x. k x && p x) p part (λ x i. ap (λ (b : Bool). b && p x) (into x i).1)

pub count_joined : (p : Name → Bool) (n : ℕ) (f : ℕ → List Name) → count_by p (joined_below n f) ≡ added_below n (λ i. count_by p (f i))
count_joined p zero f = refl
count_joined p (suc n) f =
    let a = sum_by-append (λ x. one (p x)) (joined_below n f) (f n) in
    let b = count_joined p n f in
    omega arith

pub sum_of_times : (n c : ℕ) (f : ℕ → ℕ) → added_below n (λ i. c * f i) ≡ c * added_below n f
sum_of_times zero c f = sym (mul-zero c)
sum_of_times (suc n) c f =
    let a = sum_of_times n c f in
    omega arith

first_and_rest : (n : ℕ) (f : ℕ → ℕ) → added_below (suc n) f ≡ f 0 + added_below n (λ i. f (suc i))
first_and_rest zero f = omega arith
first_and_rest (suc n) f = let a = first_and_rest n f in omega arith

-- by index, and as a list
pub sum_of_controls : (g : Control → ℕ) (cs : List Control) → added_below (length cs) (λ i. g (control_of cs i)) ≡ sum_by g cs
sum_of_controls g [] = refl
sum_of_controls g (c ∷ cs) =
    let a = first_and_rest (length cs) (λ i. g (control_of (c ∷ cs) i)) in
    let b = sum_of_controls g cs in
    let d = sum_by-cons g c cs in
    omega arith
