-- Numbers in order, each once: what stands in such a list, that it rises, where a number goes in, and that no other list is the same.
use Rattle.std.proofs.Common.{◌≡◌, ℕ, zero, suc, ◌<◌, ◌≤◌, ◌⊎◌, true, false, nat_lt, ◌==◌, List, [], ◌∷◌, length, get_or, fold, AllPairs, Contains, refl, sym, ap, subst, inl, inr, ⊎_elim, add-one, arith}
use Rattle.std.specs.List.{insert}
use Rattle.std.specs.List.Sorted.{IsStrictlyIncreasing}
use Rattle.std.proofs.lemmas.Bool.{cases_order, lt-ltb, le-ltb, eq-eqb, ne_eqb}
use Rattle.std.proofs.lemmas.List.Elements.{Contains-get_or}
use Rattle.std.proofs.lemmas.List.Kept.{AllPairs-from_increasing}
use Rattle.mp_model.specs.Ascending.{ascending, placed}
use Rattle.mp_shares.proofs.Members.{nothing_in_nil, Contains-here, Contains-later, Contains-cases}

-- each number is below all later ones
abbrev pub Rises : List ℕ → Type 0
Rises [] = Unit {0}
Rises (x ∷ xs) = ((y : ℕ) → Contains xs y → x < y) × Rises xs

-- A number at its place

placed_first : (y x : ℕ) (ys : List ℕ) → x < y → placed (y ∷ ys) x ≡ x ∷ y ∷ ys
placed_first y x ys h = let e : nat_lt x y ≡ true = lt-ltb x y h in rw e refl

placed_there : (y x : ℕ) (ys : List ℕ) → x ≡ y → placed (y ∷ ys) x ≡ y ∷ ys
placed_there y x ys h =
    let e : nat_lt x y ≡ false = le-ltb x y (omega arith) in
    let f : (x == y) ≡ true = eq-eqb x y h in
    rw (e, f) refl

placed_later : (y x : ℕ) (ys : List ℕ) → y < x → placed (y ∷ ys) x ≡ y ∷ placed ys x
placed_later y x ys h =
    let e : nat_lt x y ≡ false = le-ltb x y (omega arith) in
    let f : (x == y) ≡ false = ne_eqb x y (λ (s : x ≡ y). omega arith) in
    rw (e, f) refl

-- what holds of the list with the number holds in each of the three cases
by_place : (P : List ℕ → Type 0) (y x : ℕ) (ys : List ℕ) → (x < y → P (x ∷ y ∷ ys)) → (x ≡ y → P (y ∷ ys)) → (y < x → P (y ∷ placed ys x)) → P (placed (y ∷ ys) x)
by_place P y x ys h k l =
    ⊎_elim
    (λ (e : x ≡ y). subst P (sym (placed_there y x ys e)) (k e))
    (λ (e : (x < y) ⊎ (y < x)).
    ⊎_elim (λ (f : x < y). subst P (sym (placed_first y x ys f)) (h f)) (λ (f : y < x). subst P (sym (placed_later y x ys f)) (l f)) e)
    (cases_order x y)

-- it is the number, or it stood there
pub Contains-placed : (ys : List ℕ) (x z : ℕ) → Contains (placed ys x) z → (x ≡ z) ⊎ Contains ys z
Contains-placed [] x z = λ i. Contains-cases x z [] i
Contains-placed (y ∷ ys) x z =
    by_place
    (λ (l : List ℕ). Contains l z → (x ≡ z) ⊎ Contains (y ∷ ys) z)
    y x ys
    (λ h i. Contains-cases x z (y ∷ ys) i)
    (λ h i. inr i)
    (λ h i.
    ⊎_elim
    (λ (e : y ≡ z). inr (subst (λ (u : ℕ). Contains (y ∷ ys) u) e (Contains-here y ys)))
    (λ (k : Contains (placed ys x) z). ⊎_elim (λ (e : x ≡ z). inl e) (λ (m : Contains ys z). inr (Contains-later y z ys m)) (Contains-placed ys x z k))
    (Contains-cases y z (placed ys x) i))

-- the number stands there
pub placed-here : (ys : List ℕ) (x : ℕ) → Contains (placed ys x) x
placed-here [] x = Contains-here x []
placed-here (y ∷ ys) x =
    by_place
    (λ (l : List ℕ). Contains l x)
    y x ys
    (λ h. Contains-here x (y ∷ ys))
    (λ h. subst (λ (u : ℕ). Contains (u ∷ ys) x) h (Contains-here x ys))
    (λ h. Contains-later y x (placed ys x) (placed-here ys x))

-- what stood there still does
pub placed-Contains : (ys : List ℕ) (x z : ℕ) → Contains ys z → Contains (placed ys x) z
placed-Contains [] x z i = absurd (nothing_in_nil z i)
placed-Contains (y ∷ ys) x z i =
    by_place
    (λ (l : List ℕ). Contains l z)
    y x ys
    (λ h. Contains-later x z (y ∷ ys) i)
    (λ h. i)
    (λ h.
    ⊎_elim
    (λ (e : y ≡ z). subst (λ (u : ℕ). Contains (y ∷ placed ys x) u) e (Contains-here y (placed ys x)))
    (λ (k : Contains ys z). Contains-later y z (placed ys x) (placed-Contains ys x z k))
    (Contains-cases y z ys i))

pub Rises-placed : (ys : List ℕ) (x : ℕ) → Rises ys → Rises (placed ys x)
Rises-placed [] x r = ((λ z i. absurd (nothing_in_nil z i)), tt)
Rises-placed (y ∷ ys) x r =
    by_place
    Rises
    y x ys
    (λ h. (first h, r))
    (λ h. r)
    (λ h. (later h, Rises-placed ys x r.1))
  where
    first : x < y → (z : ℕ) → Contains (y ∷ ys) z → x < z
    first h z i = ⊎_elim (λ (e : y ≡ z). omega arith) (λ (k : Contains ys z). let l : y < z = r.0 z k in omega arith) (Contains-cases y z ys i)

    later : y < x → (z : ℕ) → Contains (placed ys x) z → y < z
    later h z i = ⊎_elim (λ (e : x ≡ z). omega arith) (λ (k : Contains ys z). r.0 z k) (Contains-placed ys x z i)

-- a number that stands there changes nothing
pub placed-Contained : (ys : List ℕ) (x : ℕ) → Rises ys → Contains ys x → placed ys x ≡ ys
placed-Contained [] x r i = absurd (nothing_in_nil x i)
placed-Contained (y ∷ ys) x r i =
    ⊎_elim
    (λ (e : y ≡ x). placed_there y x ys (sym e))
    (λ (k : Contains ys x). let l : y < x = r.0 x k in let same = placed-Contained ys x r.1 k in subst (λ (t : List ℕ). t ≡ y ∷ ys) (sym (placed_later y x ys l)) (ap (λ (t : List ℕ). y ∷ t) same))
    (Contains-cases y x ys i)

-- a number between those before a place and those from there on goes in at that place
pub placed-insert : (ys : List ℕ) (x i : ℕ) → i ≤ length ys → ((k : ℕ) → k < i → get_or ys k 0 < x) → (i < length ys → x < get_or ys i 0) → placed ys x ≡ insert ys i x
placed-insert [] x zero l before from = refl
placed-insert [] x (suc i) l before from = absurd (omega arith)
placed-insert (y ∷ ys) x zero l before from = placed_first y x ys (from (omega arith))
placed-insert (y ∷ ys) x (suc i) l before from =
    let below : y < x = before 0 (omega arith) in
    let rest = placed-insert ys x i (omega arith) (λ k h. before (suc k) (omega arith)) (λ h. from (omega arith)) in
    subst (λ (t : List ℕ). t ≡ y ∷ insert ys i x) (sym (placed_later y x ys below)) (ap (λ (t : List ℕ). y ∷ t) rest)

-- All numbers of a list

Contains-all : (xs ys : List ℕ) (z : ℕ) → Contains (fold placed ys xs) z → Contains ys z ⊎ Contains xs z
Contains-all [] ys z i = inl i
Contains-all (x ∷ xs) ys z i =
    ⊎_elim
    (λ (k : Contains (placed ys x) z).
    ⊎_elim (λ (e : x ≡ z). inr (subst (λ (u : ℕ). Contains (x ∷ xs) u) e (Contains-here x xs))) (λ (m : Contains ys z). inl m) (Contains-placed ys x z k))
    (λ (k : Contains xs z). inr (Contains-later x z xs k))
    (Contains-all xs (placed ys x) z i)

all-kept : (xs ys : List ℕ) (z : ℕ) → Contains ys z → Contains (fold placed ys xs) z
all-kept [] ys z i = i
all-kept (x ∷ xs) ys z i = all-kept xs (placed ys x) z (placed-Contains ys x z i)

all-added : (xs ys : List ℕ) (z : ℕ) → Contains xs z → Contains (fold placed ys xs) z
all-added [] ys z i = absurd (nothing_in_nil z i)
all-added (x ∷ xs) ys z i =
    ⊎_elim
    (λ (e : x ≡ z). subst (λ (u : ℕ). Contains (fold placed (placed ys x) xs) u) e (all-kept xs (placed ys x) x (placed-here ys x)))
    (λ (k : Contains xs z). all-added xs (placed ys x) z k)
    (Contains-cases x z xs i)

Rises-all : (xs ys : List ℕ) → Rises ys → Rises (fold placed ys xs)
Rises-all [] ys r = r
Rises-all (x ∷ xs) ys r = Rises-all xs (placed ys x) (Rises-placed ys x r)

-- what stands among the numbers in order stands in the list
pub Contains-ascending : (xs : List ℕ) (x : ℕ) → Contains (ascending xs) x → Contains xs x
Contains-ascending xs x i = ⊎_elim (λ (k : Contains [] x). absurd (nothing_in_nil x k)) (λ (k : Contains xs x). k) (Contains-all xs [] x i)

-- and the other way round
pub ascending-Contains : (xs : List ℕ) (x : ℕ) → Contains xs x → Contains (ascending xs) x
ascending-Contains xs x i = all-added xs [] x i

pub Rises-ascending : (xs : List ℕ) → Rises (ascending xs)
Rises-ascending xs = Rises-all xs [] tt

-- Rising, by recursion and by places

rises_next : (xs : List ℕ) (k : ℕ) → Rises xs → suc k < length xs → get_or xs k 0 < get_or xs (suc k) 0
rises_next [] k r l = absurd (omega arith)
rises_next (x ∷ xs) zero r l = r.0 (get_or xs 0 0) (Contains-get_or xs 0 0 (omega arith))
rises_next (x ∷ xs) (suc k) r l = rises_next xs k r.1 (omega arith)

pub IsStrictlyIncreasing-Rises : (xs : List ℕ) → Rises xs → IsStrictlyIncreasing xs
IsStrictlyIncreasing-Rises xs r k l = let m : suc k < length xs = omega arith in rw add-one (rises_next xs k r m)

rises_by_pairs : (xs : List ℕ) → AllPairs (λ x y. x < y) xs → Rises xs
rises_by_pairs [] h = tt
rises_by_pairs (x ∷ xs) h = (below, rises_by_pairs xs (λ i j d l m. h (suc i) (suc j) d (omega arith) (omega arith)))
  where
    below : (y : ℕ) → Contains xs y → x < y
    below y i = let l : i.0 < length xs = i.1 in let less : x < get_or xs i.0 y = h 0 (suc i.0) y (omega arith) (omega arith) in let same : get_or xs i.0 y ≡ y = i.2 in omega arith

pub Rises-IsStrictlyIncreasing : (xs : List ℕ) → IsStrictlyIncreasing xs → Rises xs
Rises-IsStrictlyIncreasing xs h = rises_by_pairs xs (AllPairs-from_increasing xs h)

pub IsStrictlyIncreasing-ascending : (xs : List ℕ) → IsStrictlyIncreasing (ascending xs)
IsStrictlyIncreasing-ascending xs = IsStrictlyIncreasing-Rises (ascending xs) (Rises-ascending xs)

-- No other list

-- two rising lists with the same numbers are one
pub same_rising : (xs ys : List ℕ) → Rises xs → Rises ys → ((x : ℕ) → Contains xs x → Contains ys x) → ((x : ℕ) → Contains ys x → Contains xs x) → xs ≡ ys
same_rising [] [] r s h k = refl
same_rising [] (y ∷ ys) r s h k = absurd (nothing_in_nil y (k y (Contains-here y ys)))
same_rising (x ∷ xs) [] r s h k = absurd (nothing_in_nil x (h x (Contains-here x xs)))
same_rising (x ∷ xs) (y ∷ ys) r s h k =
    let rest = same_rising xs ys r.1 s.1 forth back in
    let first = same in
    cc
  where
    no_less : (a b : ℕ) (bs : List ℕ) → ((z : ℕ) → Contains bs z → b < z) → Contains (b ∷ bs) a → b ≤ a
    no_less a b bs below i = ⊎_elim (λ (e : b ≡ a). omega arith) (λ (m : Contains bs a). let l : b < a = below a m in omega arith) (Contains-cases b a bs i)

    same : x ≡ y
    same = let l : y ≤ x = no_less x y ys s.0 (h x (Contains-here x xs)) in let m : x ≤ y = no_less y x xs r.0 (k y (Contains-here y ys)) in omega arith

    forth : (z : ℕ) → Contains xs z → Contains ys z
    forth z i = ⊎_elim (λ (e : y ≡ z). let l : x < z = r.0 z i in let f : x ≡ y = same in absurd (omega arith)) (λ (m : Contains ys z). m) (Contains-cases y z ys (h z (Contains-later x z xs i)))

    back : (z : ℕ) → Contains ys z → Contains xs z
    back z i = ⊎_elim (λ (e : x ≡ z). let l : y < z = s.0 z i in let f : x ≡ y = same in absurd (omega arith)) (λ (m : Contains xs z). m) (Contains-cases x z xs (k z (Contains-later y z ys i)))

-- a list with the same numbers that rises is the list in order
pub ascending-is : (xs ys : List ℕ) → IsStrictlyIncreasing ys → ((x : ℕ) → Contains xs x → Contains ys x) → ((x : ℕ) → Contains ys x → Contains xs x) → ys ≡ ascending xs
ascending-is xs ys rises h k =
    same_rising ys (ascending xs) (Rises-IsStrictlyIncreasing ys rises) (Rises-ascending xs) (λ x i. ascending-Contains xs x (k x i)) (λ x i. h x (Contains-ascending xs x i))
