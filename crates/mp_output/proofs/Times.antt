-- Rows in the order of their places stand in the order of their times, so those of the first time stand in front.
use Rattle.std.proofs.Common.{◌≡◌, ◌⊎◌, ℕ, suc, ◌+◌, ◌<◌, ◌≤◌, ◌==◌, true, false, List, [], ◌∷◌, take, drop, get_or, All, Contains, refl, sym, ap, ◌∙◌, inl, ⊎_elim, arith}
use Rattle.std.specs.List.{prefix_len}
use Rattle.std.specs.List.Sorted.{IsPartitionedBy}
use Rattle.std.proofs.lemmas.Bool.{both_ways, cases_Bool, cases_order, eq-eqb, eqb-true, false_from_ne_true}
use Rattle.std.proofs.lemmas.List.Elements.{All-contains, Contains-get_or}
use Rattle.mp_names.specs.Names.{is_before}
use Rattle.mp_names.proofs.Orders.{is_before-from}
use Rattle.mp_model.specs.declared.record.Output.{Output}
use Rattle.mp_msg.specs.Below.{Contains-cases, Contains-here, Contains-later}
use Rattle.mp_msg.specs.Below.{Pairs}
use Rattle.mp_ordered.specs.InOrder.{IsInOrder}
use Rattle.mp_ordered.proofs.Placing.{pairs_head, pairs_tail}
use Rattle.mp_output.specs.Unwritten.{place_rank, rows_at, rows_beside}

-- the second row doesn't come before the first
abbrev pub NotAfter : Output → Output → Type 0
NotAfter x y = is_before (place_rank y) (place_rank x) ≡ false

-- so it isn't of an earlier time
no_earlier : (x y : Output) → NotAfter x y → x.time ≤ y.time
no_earlier x y h =
    ⊎_elim
    (λ (e : y.time ≡ x.time). omega arith)
    (λ (e : (y.time < x.time) ⊎ (x.time < y.time)).
    ⊎_elim
    (λ (l : y.time < x.time). absurd (both_ways (is_before (place_rank y) (place_rank x)) h (is_before-from (place_rank y) (place_rank x) (inl l))))
    (λ (l : x.time < y.time). omega arith)
    e)
    (cases_order y.time x.time)

-- no row is of an earlier time than one in front of it
abbrev pub IsByTime : List Output → Type 0
IsByTime rows = Pairs (λ x y. x.time ≤ y.time) rows

pub rows_by_time : (rows : List Output) → IsInOrder place_rank rows → IsByTime rows
rows_by_time [] h = tt
rows_by_time (x ∷ xs) h = (
  (λ y i. no_earlier x y (All-contains (NotAfter x) xs y (pairs_head NotAfter x xs h) i)),
  rows_by_time xs (pairs_tail NotAfter x xs h),
)

-- where all rows are of later times none is of this one
none_at : (t : ℕ) (rows : List Output) → ((x : Output) → Contains rows x → t < x.time) → rows_at t rows ≡ []
none_at t [] h = refl
none_at t (x ∷ xs) h =
    let l : t < x.time = h x (Contains-here x xs) in
    let e : (x.time == t) ≡ false = false_from_ne_true (x.time == t) (λ k. let same : x.time ≡ t = eqb-true x.time t k in omega arith) in
    rw e (none_at t xs (λ y i. h y (Contains-later x y xs i)))

all_beside : (t : ℕ) (rows : List Output) → ((x : Output) → Contains rows x → t < x.time) → rows_beside t rows ≡ rows
all_beside t [] h = refl
all_beside t (x ∷ xs) h =
    let l : t < x.time = h x (Contains-here x xs) in
    let e : (x.time == t) ≡ false = false_from_ne_true (x.time == t) (λ k. let same : x.time ≡ t = eqb-true x.time t k in omega arith) in
    rw e (ap (λ (ys : List Output). x ∷ ys) (all_beside t xs (λ y i. h y (Contains-later x y xs i))))

take_one_more : {X : Type 0} (n : ℕ) (x : X) (xs : List X) → take (1 + n) (x ∷ xs) ≡ x ∷ take n xs
take_one_more n x xs = let e : 1 + n ≡ suc n = omega arith in rw e refl

drop_one_more : {X : Type 0} (n : ℕ) (x : X) (xs : List X) → drop (1 + n) (x ∷ xs) ≡ drop n xs
drop_one_more n x xs = let e : 1 + n ≡ suc n = omega arith in rw e refl

-- how many rows from the front on have the time
abbrev pub count_front : ℕ → List Output → ℕ
count_front t rows = prefix_len (λ row. row.time == t) rows

-- the rows of the least time stand in front, and all others behind them
pub front_is : (t : ℕ) (rows : List Output) → IsByTime rows → ((x : Output) → Contains rows x → t ≤ x.time) → (take (count_front t rows) rows ≡ rows_at t rows) × (drop (count_front t rows) rows ≡ rows_beside t rows)
front_is t [] h k = (refl, refl)
front_is t (x ∷ xs) h k = ⊎_elim (here (front_is t xs h.1 (λ y i. k y (Contains-later x y xs i)))) later (cases_Bool (x.time == t))
  where
    here : (take (count_front t xs) xs ≡ rows_at t xs) × (drop (count_front t xs) xs ≡ rows_beside t xs) → (x.time == t) ≡ true → (take (count_front t (x ∷ xs)) (x ∷ xs) ≡ rows_at t (x ∷ xs)) × (drop (count_front t (x ∷ xs)) (x ∷ xs) ≡ rows_beside t (x ∷ xs))
    here rest e = (
      rw e (take_one_more (count_front t xs) x xs ∙ ap (λ (ys : List Output). x ∷ ys) rest.0),
      rw e (drop_one_more (count_front t xs) x xs ∙ rest.1),
    )

    past : (x.time == t) ≡ false → (y : Output) → Contains xs y → t < y.time
    past e y i =
        let first : t ≤ x.time = k x (Contains-here x xs) in
        let next : x.time ≤ y.time = h.0 y i in
        let other : x.time ≡ t → ⊥ = λ same. both_ways (x.time == t) e (eq-eqb x.time t same) in
        omega arith

    later : (x.time == t) ≡ false → (take (count_front t (x ∷ xs)) (x ∷ xs) ≡ rows_at t (x ∷ xs)) × (drop (count_front t (x ∷ xs)) (x ∷ xs) ≡ rows_beside t (x ∷ xs))
    later e = (
      rw e (sym (none_at t xs (past e))),
      rw e (ap (λ (ys : List Output). x ∷ ys) (sym (all_beside t xs (past e)))),
    )

-- the first row is of the least time
pub first_is_least : (x : Output) (xs : List Output) → IsByTime (x ∷ xs) → (y : Output) → Contains (x ∷ xs) y → x.time ≤ y.time
first_is_least x xs h y i = ⊎_elim (λ (e : x ≡ y). let same : x.time ≡ y.time = ap (λ (z : Output). z.time) e in omega arith) (λ (k : Contains xs y). h.0 y k) (Contains-cases x y xs i)

-- so it is no later than any
pub none_is_earlier : (x : Output) (xs : List Output) → IsInOrder place_rank (x ∷ xs) → All (λ row. x.time ≤ row.time) (x ∷ xs)
none_is_earlier x xs h = λ k d l. first_is_least x xs (rows_by_time (x ∷ xs) h) (get_or (x ∷ xs) k d) (Contains-get_or (x ∷ xs) k d l)

-- the rows of the least time in front, and all others behind them, as the order says
pub front_of : (t : ℕ) (rows : List Output) → IsInOrder place_rank rows → All (λ row. t ≤ row.time) rows → (take (count_front t rows) rows ≡ rows_at t rows) × (drop (count_front t rows) rows ≡ rows_beside t rows)
front_of t rows h least = front_is t rows (rows_by_time rows h) (λ x i. All-contains (λ row. t ≤ row.time) rows x least i)

-- and no other row stands between them
pub first_parted : (t : ℕ) (rows : List Output) → IsInOrder place_rank rows → All (λ row. t ≤ row.time) rows → IsPartitionedBy (λ row. row.time == t) rows
first_parted t rows h least i j d l m e = ⊎_elim (λ (f : i ≡ j). rw f e) (λ (f : (i < j) ⊎ (j < i)). ⊎_elim (λ (k : i < j). there k) (λ (k : j < i). absurd (omega arith)) f) (cases_order i j)
  where
    there : i < j → ((get_or rows i d).time == t) ≡ true
    there k =
        let low : t ≤ (get_or rows i d).time = least i d (omega arith) in
        let high : (get_or rows i d).time ≤ (get_or rows j d).time = no_earlier (get_or rows i d) (get_or rows j d) (h i j d k m) in
        let same : (get_or rows j d).time ≡ t = eqb-true (get_or rows j d).time t e in
        eq-eqb (get_or rows i d).time t (omega arith)
