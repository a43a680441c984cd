-- The order in which control records go out.
use Rattle.std.proofs.Common.{◌≡◌, ℕ, zero, suc, ◌<◌, ◌≤◌, ◌⊎◌, ◌==◌, nat_lt, true, false, List, [], ◌∷◌, ◌++◌, length, refl, sym, ◌∙◌, subst, inl, inr, ⊎_elim, arith}
use Rattle.std.proofs.lemmas.Bool.{false≢true, ltb-true, cond-true, cond-false, cases_Bool, cases_lt}
use Rattle.mp_names.specs.declared.names.Name.{Name}
use Rattle.mp_names.specs.declared.names.Name.TheVariants.{Ctrl}
use Rattle.mp_names.specs.Names.{In, Less, IsLeast, IsAscending, joined_below, is_ctrl}
use Rattle.mp_names.specs.Outlines.{Outline, time_of, sender, ctrl_names}
use Rattle.mp_names.specs.Logs.{Log}
use Rattle.mp_names.specs.Keeping.{IsHeld}
use Rattle.mp_names.proofs.Lists.{In_here, In_later, In_cases, In_append, In_joined}
use Rattle.mp_names.proofs.Orders.{less_irreflexive, less_trans, filter_ascends}
use Rattle.mp_machine.specs.Steps.{IsControlDue}
use Rattle.mp_player_laws.specs.Decisions.{turn_time, placed_by_time, by_time, controls_to_send}
use Rattle.mp_player_laws.proofs.Next.{AreInOrder, IsFirst, IsOrder}

-- by rank

append_ascends : (xs ys : List Name) → IsAscending xs → IsAscending ys → ((x y : Name) → In x xs → In y ys → Less x y) → IsAscending (xs ++ ys)
append_ascends [] ys a b h = b
append_ascends (x ∷ xs) ys a b h = (
  (λ y i. ⊎_elim (λ (k : In y xs). a.0 y k) (λ (k : In y ys). h x y (In_here x xs) k) (In_append y xs ys i)),
  append_ascends xs ys a.1 b (λ u v i k. h u v (In_later u x xs i) k),
)

joined_ascends : (n : ℕ) (f : ℕ → List Name) → ((i : ℕ) → IsAscending (f i)) → ((i j : ℕ) (x y : Name) → i < j → In x (f i) → In y (f j) → Less x y) → IsAscending (joined_below n f)
joined_ascends zero f a h = tt
joined_ascends (suc n) f a h =
    append_ascends (joined_below n f) (f n) (joined_ascends n f a h) (a n) (λ x y i k. let r = In_joined n f x i in h r.0 n x y r.1 r.2 k)

one_in : (x y : Name) → In x (y ∷ []) → y ≡ x
one_in x y i = ⊎_elim (λ (e : y ≡ x). e) (λ (k : In x []). absurd (false≢true k)) (In_cases x y [] i)

ctrl_less : (i j v u : ℕ) → (i < j) ⊎ ((i ≡ j) × (v < u)) → Less (Ctrl i v) (Ctrl j u)
ctrl_less i j v u h = grind arith

ctrl_names_ascend : (o : Outline) → IsAscending (ctrl_names o)
ctrl_names_ascend o =
    joined_ascends (length o.controls) (λ i. joined_below o.workers (λ v. Ctrl i v ∷ []))
    (λ i. joined_ascends o.workers (λ v. Ctrl i v ∷ []) (λ v. ((λ y k. absurd (false≢true k)), tt)) (λ v u x y l a b. of_two x y (Ctrl i v) (Ctrl i u) (one_in x (Ctrl i v) a) (one_in y (Ctrl i u) b) (ctrl_less i i v u (inr (refl, l)))))
    (λ i j x y l a b.
    let p = In_joined o.workers (λ v. Ctrl i v ∷ []) x a in
    let q = In_joined o.workers (λ v. Ctrl j v ∷ []) y b in
    of_two x y (Ctrl i p.0) (Ctrl j q.0) (one_in x (Ctrl i p.0) p.2) (one_in y (Ctrl j q.0) q.2) (ctrl_less i j p.0 q.0 (inl l)))
  where
    of_two : (x y a b : Name) → a ≡ x → b ≡ y → Less a b → Less x y
    of_two x y a b e f h = subst (λ (z : Name). Less x z) f (subst (λ (z : Name). Less z b) e h)

-- by time before that

abbrev pub GoesBefore : Outline → Name → Name → Type 0
GoesBefore o x y = (turn_time o x < turn_time o y) ⊎ ((turn_time o x ≡ turn_time o y) × Less x y)

module _ (o : Outline) where
  abbrev time : Name → ℕ
  time = turn_time o

  not_earlier : (x y z : Name) → time x ≤ time y → (time y < time z) ⊎ ((time y ≡ time z) × Less y z) → Less x y → GoesBefore o x z
  not_earlier x y z l h less =
      ⊎_elim
      (λ (k : time y < time z). inl (omega arith))
      (λ (k : (time y ≡ time z) × Less y z).
      ⊎_elim
      (λ (m : time x < time z). inl m)
      (λ (m : time z ≤ time x). let e = k.0 in inr (omega arith, less_trans x y z less k.1))
      (cases_lt (time x) (time z)))
      h

  pub by_turn : IsOrder (GoesBefore o)
  by_turn =
      record {
        irreflexive = λ x h. ⊎_elim (λ (l : time x < time x). absurd (omega arith)) (λ (k : (time x ≡ time x) × Less x x). less_irreflexive x k.1) h;
        transitive = λ x y z h k.
            ⊎_elim
            (λ (l : time x < time y). ⊎_elim (λ (m : time y < time z). inl (omega arith)) (λ (m : (time y ≡ time z) × Less y z). let e = m.0 in inl (omega arith)) k)
            (λ (l : (time x ≡ time y) × Less x y). let e = l.0 in not_earlier x y z (omega arith) k l.1)
            h;
      }

  -- the list by time

  pub placed_In : (x y : Name) (ys : List Name) → In y (placed_by_time o x ys) → (x ≡ y) ⊎ In y ys
  placed_In x y [] i = In_cases y x [] i
  placed_In x y (z ∷ ys) i =
      ⊎_elim
      (λ (e : nat_lt (time z) (time x) ≡ true).
      ⊎_elim
      (λ (f : z ≡ y). inr (subst (λ (u : Name). In u (z ∷ ys)) f (In_here z ys)))
      (λ (k : In y (placed_by_time o x ys)). ⊎_elim (λ (f : x ≡ y). inl f) (λ (h : In y ys). inr (In_later y z ys h)) (placed_In x y ys k))
      (In_cases y z (placed_by_time o x ys) (subst (λ (l : List Name). In y l) (cond-true (nat_lt (time z) (time x)) (z ∷ placed_by_time o x ys) (x ∷ z ∷ ys) e) i)))
      (λ (e : nat_lt (time z) (time x) ≡ false). In_cases y x (z ∷ ys) (subst (λ (l : List Name). In y l) (cond-false (nat_lt (time z) (time x)) (z ∷ placed_by_time o x ys) (x ∷ z ∷ ys) e) i))
      (cases_Bool (nat_lt (time z) (time x)))

  pub In_placed : (x y : Name) (ys : List Name) → (x ≡ y) ⊎ In y ys → In y (placed_by_time o x ys)
  In_placed x y [] h = ⊎_elim (λ (e : x ≡ y). subst (λ (u : Name). In u (x ∷ [])) e (In_here x [])) (λ (k : In y []). absurd (false≢true k)) h
  In_placed x y (z ∷ ys) h =
      ⊎_elim
      (λ (e : nat_lt (time z) (time x) ≡ true).
      subst (λ (l : List Name). In y l) (sym (cond-true (nat_lt (time z) (time x)) (z ∷ placed_by_time o x ys) (x ∷ z ∷ ys) e))
      (⊎_elim
      (λ (f : x ≡ y). In_later y z (placed_by_time o x ys) (In_placed x y ys (inl f)))
      (λ (k : In y (z ∷ ys)).
      ⊎_elim (λ (f : z ≡ y). subst (λ (u : Name). In u (z ∷ placed_by_time o x ys)) f (In_here z (placed_by_time o x ys))) (λ (m : In y ys). In_later y z (placed_by_time o x ys) (In_placed x y ys (inr m))) (In_cases y z ys k))
      h))
      (λ (e : nat_lt (time z) (time x) ≡ false).
      subst (λ (l : List Name). In y l) (sym (cond-false (nat_lt (time z) (time x)) (z ∷ placed_by_time o x ys) (x ∷ z ∷ ys) e))
      (⊎_elim (λ (f : x ≡ y). subst (λ (u : Name). In u (x ∷ z ∷ ys)) f (In_here x (z ∷ ys))) (λ (k : In y (z ∷ ys)). In_later y x (z ∷ ys) k) h))
      (cases_Bool (nat_lt (time z) (time x)))

  pub by_time_In : (y : Name) (xs : List Name) → In y (by_time o xs) → In y xs
  by_time_In y [] i = i
  by_time_In y (x ∷ xs) i =
      ⊎_elim (λ (e : x ≡ y). subst (λ (u : Name). In u (x ∷ xs)) e (In_here x xs)) (λ (k : In y (by_time o xs)). In_later y x xs (by_time_In y xs k)) (placed_In x y (by_time o xs) i)

  pub In_by_time : (y : Name) (xs : List Name) → In y xs → In y (by_time o xs)
  In_by_time y [] i = i
  In_by_time y (x ∷ xs) i =
      In_placed x y (by_time o xs) (⊎_elim (λ (e : x ≡ y). inl e) (λ (k : In y xs). inr (In_by_time y xs k)) (In_cases y x xs i))

  placed_in_order : (x : Name) (ys : List Name) → ((y : Name) → In y ys → Less x y) → AreInOrder (GoesBefore o) ys → AreInOrder (GoesBefore o) (placed_by_time o x ys)
  placed_in_order x [] least a = ((λ y i. absurd (false≢true i)), tt)
  placed_in_order x (z ∷ ys) least a =
      ⊎_elim
      (λ (e : nat_lt (time z) (time x) ≡ true).
      subst (AreInOrder (GoesBefore o)) (sym (cond-true (nat_lt (time z) (time x)) (z ∷ placed_by_time o x ys) (x ∷ z ∷ ys) e)) (
        (λ y i.
            ⊎_elim
            (λ (f : x ≡ y). subst (GoesBefore o z) f (inl (ltb-true (time z) (time x) e)))
            (λ (k : In y ys). a.0 y k)
            (placed_In x y ys i)),
        placed_in_order x ys (λ y i. least y (In_later y z ys i)) a.1,
      ))
      (λ (e : nat_lt (time z) (time x) ≡ false).
      let first : Less x z = least z (In_here z ys) in
      let l : time x ≤ time z = not_less (time z) (time x) e in
      subst (AreInOrder (GoesBefore o)) (sym (cond-false (nat_lt (time z) (time x)) (z ∷ placed_by_time o x ys) (x ∷ z ∷ ys) e)) (
        (λ y i.
            ⊎_elim
            (λ (f : z ≡ y). subst (GoesBefore o x) f (alike l first))
            (λ (k : In y ys). not_earlier x z y l (a.0 y k) first)
            (In_cases y z ys i)),
        a,
      ))
      (cases_Bool (nat_lt (time z) (time x)))
    where
      not_less : (n m : ℕ) → nat_lt n m ≡ false → m ≤ n
      not_less n m e = grind arith

      alike : time x ≤ time z → Less x z → GoesBefore o x z
      alike l less = ⊎_elim (λ (m : time x < time z). inl m) (λ (m : time z ≤ time x). inr (omega arith, less)) (cases_lt (time x) (time z))

  by_time_in_order : (xs : List Name) → IsAscending xs → AreInOrder (GoesBefore o) (by_time o xs)
  by_time_in_order [] a = tt
  by_time_in_order (x ∷ xs) a = placed_in_order x (by_time o xs) (λ y i. a.0 y (by_time_In y xs i)) (by_time_in_order xs a.1)

  pub controls_in_order : (w : ℕ) → AreInOrder (GoesBefore o) (controls_to_send o w)
  controls_in_order w = by_time_in_order _ (filter_ascends (λ x. sender o x == w) (ctrl_names o) (ctrl_names_ascend o))

  -- the least that is due is the first that is held

  module _ (w : ℕ) (log : Log) where
    abbrev Held : Name → Type 0
    Held = IsHeld o w log is_ctrl

    paced_time : o.paced ≡ true → (x : Name) → time x ≡ time_of o x
    paced_time e x = cond-true o.paced (time_of o x) 0 e

    one_time : o.paced ≡ false → (x : Name) → time x ≡ 0
    one_time e x = cond-false o.paced (time_of o x) 0 e

    pub first_held : (x : Name) → IsLeast (IsControlDue o w log) x → IsFirst (GoesBefore o) Held x
    first_held x h = (h.0.0, (λ y held before. ⊎_elim (earlier y held) (λ (k : (time y ≡ time x) × Less y x). h.1 y (held, due y k.0) k.1) before))
      where
        earlier : (y : Name) → Held y → time y < time x → ⊥
        earlier y held l =
            ⊎_elim
            (λ (e : o.paced ≡ true). let late = h.0.1 e y held in let a = paced_time e x in let b = paced_time e y in absurd (omega arith))
            (λ (e : o.paced ≡ false). let a = one_time e x in let b = one_time e y in absurd (omega arith))
            (cases_Bool o.paced)

        due : (y : Name) → time y ≡ time x → o.paced ≡ true → (z : Name) → Held z → time_of o y ≤ time_of o z
        due y same e z held = let late = h.0.1 e z held in let a = paced_time e x in let b = paced_time e y in omega arith

    pub least_due : (x : Name) → IsFirst (GoesBefore o) Held x → IsLeast (IsControlDue o w log) x
    least_due x h = ((h.0, no_sooner), (λ y due less. h.1 y due.0 (before y due less)))
      where
        no_sooner : o.paced ≡ true → (y : Name) → Held y → time_of o x ≤ time_of o y
        no_sooner e y held =
            ⊎_elim
            (λ (l : time_of o y < time_of o x). let a = paced_time e x in let b = paced_time e y in absurd (h.1 y held (inl (omega arith))))
            (λ (l : time_of o x ≤ time_of o y). l)
            (cases_lt (time_of o y) (time_of o x))

        before : (y : Name) → IsControlDue o w log y → Less y x → GoesBefore o y x
        before y due less =
            ⊎_elim
            (λ (e : o.paced ≡ true).
            let late = due.1 e x h.0 in
            let a = paced_time e x in
            let b = paced_time e y in
            ⊎_elim (λ (l : time y < time x). inl l) (λ (l : time x ≤ time y). inr (omega arith, less)) (cases_lt (time y) (time x)))
            (λ (e : o.paced ≡ false). inr (one_time e y ∙ sym (one_time e x), less))
            (cases_Bool o.paced)
