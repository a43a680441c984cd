-- Times in ascending order, each once, with one more at its place.
use Rattle.std.proofs.Common.{◌≡◌, ◌↔◌, ◌⊎◌, ◌<◌, ◌≤◌, ◌-◌, ◌==◌, ℕ, nat_le, nat_lt, Bool, true, false, List, [], ◌∷◌, All, Contains, IsTrue, Some, Result, Ok, Err, OnOk, OnErr, length, get_or, refl, sym, ap, ◌∙◌, subst, inl, inr, ⊎_elim, arith}
use Rattle.std.proofs.lemmas.Bool.{both_ways, cases_lt, cases_order, eq-eqb, eqb-true, le-leb, le-ltb, leb-true, lt-ltb, ne_eqb}
use Rattle.std.specs.List.{prefix_len}
use Rattle.std.specs.List.Sorted.{IsPartitionPoint, IsPartitionedBy}
use Rattle.std.specs.Prelude.{slice_get}
use Rattle.std.proofs.lemmas.List.{get_or_default}
use Rattle.std.proofs.lemmas.List.Elements.{All-cons, All-contains, All-head, All-nil, All-tail, All-weaker}
use Rattle.std.proofs.lemmas.List.Kept.{AllPairs-cons}
use Rattle.mp_model.specs.Ascending.{placed}
use Rattle.mp_job.proofs.Members.{Contains-cases, Contains-here, Contains-later}
use Rattle.mp_ordered.specs.InOrder.{InOrder, put_in_order}
use Rattle.mp_ordered.proofs.Placing.{count_parts, pairs_head, pairs_tail, read_at}
use Rattle.mp_handoff.specs.MoversState.{Rises}

-- what follows where a call answers `Ok`
pub ok_then : {T E P Q : Type 0} (r : Result T E) → OnOk r P → (P → Q) → OnOk r Q
ok_then (Ok x) p f = f p
ok_then (Err x) p f = tt

abbrev pub time_rank : ℕ → List ℕ
time_rank t = t ∷ []

-- a time comes before all that follow it
pub all_later : (t : ℕ) (ts : List ℕ) → Rises (t ∷ ts) → All (λ u. t < u) ts
all_later t ts h = pairs_head (λ t u. t < u) t ts h

pub rest_rises : (t : ℕ) (ts : List ℕ) → Rises (t ∷ ts) → Rises ts
rest_rises t ts h = pairs_tail (λ t u. t < u) t ts h

pub comes_first : (t : ℕ) (ts : List ℕ) (u : ℕ) → Rises (t ∷ ts) → Contains ts u → t < u
comes_first t ts u h i = All-contains (λ u. t < u) ts u (all_later t ts h) i

-- where a time goes: before the first, at it, or behind it

module _ (t y : ℕ) (ys : List ℕ) where
  goes_before : t < y → placed (y ∷ ys) t ≡ t ∷ y ∷ ys
  goes_before l = let e : nat_lt t y ≡ true = lt-ltb t y l in rw e refl

  stands_there : t ≡ y → placed (y ∷ ys) t ≡ y ∷ ys
  stands_there s = let e : nat_lt t y ≡ false = le-ltb t y (omega arith) in let f : (t == y) ≡ true = eq-eqb t y s in rw (e, f) refl

  goes_behind : y < t → placed (y ∷ ys) t ≡ y ∷ placed ys t
  goes_behind l = let e : nat_lt t y ≡ false = le-ltb t y (omega arith) in let f : (t == y) ≡ false = ne_eqb t y (λ g. absurd (omega arith)) in rw (e, f) refl

  -- a fact of the list with the time at its place
  pub by_place : (P : List ℕ → Type 0) → (t < y → P (t ∷ y ∷ ys)) → (t ≡ y → P (y ∷ ys)) → (y < t → P (y ∷ placed ys t)) → P (placed (y ∷ ys) t)
  by_place P before at behind =
      ⊎_elim
      (λ (e : t ≡ y). subst P (sym (stands_there e)) (at e))
      (λ (e : (t < y) ⊎ (y < t)). ⊎_elim (λ (l : t < y). subst P (sym (goes_before l)) (before l)) (λ (l : y < t). subst P (sym (goes_behind l)) (behind l)) e)
      (cases_order t y)

-- what is there with a time more

pub placed_here : (t : ℕ) (ts : List ℕ) → Contains (placed ts t) t
placed_here t [] = Contains-here t []
placed_here t (y ∷ ys) =
    by_place t y ys (λ l. Contains l t)
    (λ l. Contains-here t (y ∷ ys))
    (λ e. subst (λ (u : ℕ). Contains (y ∷ ys) u) (sym e) (Contains-here y ys))
    (λ l. Contains-later y t (placed ys t) (placed_here t ys))

pub placed_there : (t : ℕ) (ts : List ℕ) (u : ℕ) → Contains ts u → Contains (placed ts t) u
placed_there t [] u i = Contains-later t u [] i
placed_there t (y ∷ ys) u i =
    by_place t y ys (λ l. Contains l u)
    (λ l. Contains-later t u (y ∷ ys) i)
    (λ e. i)
    (λ l. ⊎_elim (λ (e : y ≡ u). subst (λ (v : ℕ). Contains (y ∷ placed ys t) v) e (Contains-here y (placed ys t))) (λ (k : Contains ys u). Contains-later y u (placed ys t) (placed_there t ys u k)) (Contains-cases y u ys i))

pub there_placed : (t : ℕ) (ts : List ℕ) (u : ℕ) → Contains (placed ts t) u → (t ≡ u) ⊎ Contains ts u
there_placed t [] u i = Contains-cases t u [] i
there_placed t (y ∷ ys) u i =
    by_place t y ys (λ l. Contains l u → (t ≡ u) ⊎ Contains (y ∷ ys) u)
    (λ l k. Contains-cases t u (y ∷ ys) k)
    (λ e k. inr k)
    (λ l k.
    ⊎_elim
    (λ (e : y ≡ u). inr (subst (λ (v : ℕ). Contains (y ∷ ys) v) e (Contains-here y ys)))
    (λ (m : Contains (placed ys t) u). ⊎_elim (λ (e : t ≡ u). inl e) (λ (n : Contains ys u). inr (Contains-later y u ys n)) (there_placed t ys u m))
    (Contains-cases y u (placed ys t) k))
    i

-- the order is kept

placed_all : (P : ℕ → Type 0) (t : ℕ) (ts : List ℕ) → P t → All P ts → All P (placed ts t)
placed_all P t [] p h = All-cons P t [] p h
placed_all P t (y ∷ ys) p h =
    by_place t y ys (All P) (λ l. All-cons P t (y ∷ ys) p h) (λ e. h) (λ l. All-cons P y (placed ys t) (All-head P y ys h) (placed_all P t ys p (All-tail P y ys h)))

pub placed_rises : (t : ℕ) (ts : List ℕ) → Rises ts → Rises (placed ts t)
placed_rises t [] h = AllPairs-cons (λ t u. t < u) t [] (All-nil (λ u. t < u)) h
placed_rises t (y ∷ ys) h =
    by_place t y ys Rises
    (λ l. AllPairs-cons (λ t u. t < u) t (y ∷ ys) (All-cons (λ u. t < u) y ys l (All-weaker (λ u. y < u) (λ u. t < u) (λ u m. omega arith) ys (all_later y ys h))) h)
    (λ e. h)
    (λ l. AllPairs-cons (λ t u. t < u) y (placed ys t) (placed_all (λ u. y < u) t ys l (all_later y ys h)) (placed_rises t ys (rest_rises y ys h)))

-- a time that is there

pub placed_same : (t : ℕ) (ts : List ℕ) → Rises ts → Contains ts t → placed ts t ≡ ts
placed_same t [] h i = let l : i.0 < 0 = i.1 in absurd (omega arith)
placed_same t (y ∷ ys) h i =
    by_place t y ys (λ l. l ≡ y ∷ ys)
    (λ l. absurd (⊎_elim (λ (e : y ≡ t). omega arith) (λ (k : Contains ys t). let m = comes_first y ys t h k in omega arith) (Contains-cases y t ys i)))
    (λ e. refl)
    (λ l. ap (λ (r : List ℕ). y ∷ r) (placed_same t ys (rest_rises y ys h) (⊎_elim (λ (e : y ≡ t). absurd (omega arith)) (λ (k : Contains ys t). k) (Contains-cases y t ys i))))

-- a time that isn't there is put at its place

pub put_is_placed : (t : ℕ) (ts : List ℕ) → (Contains ts t → ⊥) → put_in_order time_rank t ts ≡ placed ts t
put_is_placed t [] n = refl
put_is_placed t (y ∷ ys) n =
    by_place t y ys (λ l. put_in_order time_rank t (y ∷ ys) ≡ l)
    (λ l. let e : nat_lt y t ≡ false = le-ltb y t (omega arith) in let f : (y == t) ≡ false = ne_eqb y t (λ g. absurd (omega arith)) in rw (e, f) refl)
    (λ e. absurd (n (subst (λ (u : ℕ). Contains (y ∷ ys) u) (sym e) (Contains-here y ys))))
    (λ l. let e : nat_lt y t ≡ true = lt-ltb y t l in rw e (ap (λ (r : List ℕ). y ∷ r) (put_is_placed t ys (λ i. n (Contains-later y t ys i)))))

-- a time that is looked for

module _ (ts : List ℕ) (t : ℕ) (rises : Rises ts) where
  never_falls : (i j : ℕ) → i ≤ j → j < length ts → get_or ts i 0 ≤ get_or ts j 0
  never_falls i j l k = ⊎_elim (λ (e : i < j). let m = rises i j 0 e k in omega arith) (λ (e : j ≤ i). let same : i ≡ j = omega arith in let f = ap (λ (n : ℕ). get_or ts n 0) same in omega arith) (cases_lt i j)

  abbrev pub upto : ℕ → Bool
  upto u = nat_le u t

  -- those up to the time stand first
  pub upto_first : IsPartitionedBy upto ts
  upto_first i k d l m e =
      let f = never_falls i k l m in
      let g = get_or_default ts i 0 d (omega arith) in
      let h = get_or_default ts k 0 d m in
      let n = leb-true (get_or ts k d) t e in
      le-leb (get_or ts i d) t (omega arith)

  parts : IsPartitionPoint (λ u. upto u ≡ true) (λ u. upto u ≡ false) ts (prefix_len upto ts)
  parts = count_parts upto ts upto_first

  in_front : (c : Contains ts t) → c.0 < prefix_len upto ts
  in_front c =
      ⊎_elim
      (λ (l : c.0 < prefix_len upto ts). l)
      (λ (l : prefix_len upto ts ≤ c.0). absurd (both_ways (upto (get_or ts c.0 t)) (parts.1 c.0 t l c.1) (ap upto c.2 ∙ le-leb t t (omega arith))))
      (cases_lt c.0 (prefix_len upto ts))

  -- if it is there it is the last of them
  pub none_found : prefix_len upto ts ≡ 0 → Contains ts t → ⊥
  none_found e c = let l = in_front c in omega arith

  pub last_found : (x : ℕ) → 0 < prefix_len upto ts → slice_get ts (prefix_len upto ts - 1) ≡ Some x → IsTrue (x == t) ↔ Contains ts t
  last_found x some e =
      let p = prefix_len upto ts in
      let read = read_at ts (p - 1) x e in (
        (λ h. (p - 1, read.0, read.1 t ∙ eqb-true x t h)),
        (λ c.
            let l = in_front c in
            let low = never_falls c.0 (p - 1) (omega arith) read.0 in
            let is = get_or_default ts c.0 0 t c.1 ∙ c.2 in
            let last = read.1 0 in
            let high = leb-true (get_or ts (p - 1) 0) t (parts.0 (p - 1) 0 (omega arith) (omega arith)) in
            eq-eqb x t (omega arith)),
      )

-- a time that was put at its place, or was refused

module _ {T E : Type 0} (result : Result T E) (t : ℕ) (old new : InOrder ℕ) (none : Contains old.items t → ⊥) (put : OnOk result (new.items ≡ put_in_order time_rank t old.items)) where
  pub put_at_place : OnOk result (new.items ≡ placed old.items t)
  put_at_place = ok_then result put (λ e. e ∙ put_is_placed t old.items none)

  pub still_rises : OnErr result (new ≡ old) → Rises old.items → Rises new.items
  still_rises refused h = cases result put_at_place refused
    where
      cases : (r : Result T E) → OnOk r (new.items ≡ placed old.items t) → OnErr r (new ≡ old) → Rises new.items
      cases (Ok x) e f = subst Rises (sym e) (placed_rises t old.items h)
      cases (Err x) e f = subst (λ (l : InOrder ℕ). Rises l.items) (sym f) h
