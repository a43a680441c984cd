-- How many names of a list pass a test: of two tests that agree, and of two that differ at one name.
use Rattle.std.proofs.Common.{◌≡◌, ℕ, ◌+◌, ◌&&◌, ◌||◌, ◌==◌, Bool, true, false, cond, List, [], ◌∷◌, count_by, refl, sym, ap, ◌∙◌, subst, ◌⊎◌, ⊎_elim, arith}
use Rattle.std.proofs.lemmas.Bool.{and_right, both_ways, cases_Bool, false_from_ne_true}
use Rattle.mp_names.specs.declared.names.Name.{Name}
use Rattle.mp_names.specs.Frontiers.{number_at}
use Rattle.mp_names.specs.Names.{same_name, has, In, Distinct}
use Rattle.mp_names.specs.Outlines.{Outline, time_of}
use Rattle.mp_names.proofs.Lists.{In_here, In_later, counted, count_agree, same_name-true, same_name_sym}

abbrev one : Bool → ℕ
one b = cond b 1 0

-- two tests of which the first passes one more name
pub count_more : (p q : Name → Bool) (x : Name) (xs : List Name) → Distinct xs → p x ≡ true → q x ≡ false → ((y : Name) → In y xs → same_name x y ≡ false → p y ≡ q y) → count_by p xs ≡ count_by q xs + cond (has xs x) 1 0
count_more p q x [] d a b h = refl
count_more p q x (y ∷ ys) d a b h =
    let e = counted p y ys in
    let f = counted q y ys in
    let rest = count_more p q x ys d.1 a b (λ z i. h z (In_later z y ys i)) in
    ⊎_elim
    (λ (s : same_name y x ≡ true).
    let same = same_name-true y x s in
    let a' : one (p y) ≡ 1 = ap one (subst (λ (z : Name). p z ≡ true) (sym same) a) in
    let b' : one (q y) ≡ 0 = ap one (subst (λ (z : Name). q z ≡ false) (sym same) b) in
    let here : one (same_name y x || has ys x) ≡ 1 = ap (λ (c : Bool). one (c || has ys x)) s in
    let none : one (has ys x) ≡ 0 = ap one (subst (λ (z : Name). has ys z ≡ false) same d.0) in
    omega arith)
    (λ (s : same_name y x ≡ false).
    let agree : one (p y) ≡ one (q y) = ap one (h y (In_here y ys) (same_name_sym x y ∙ s)) in
    let there : one (same_name y x || has ys x) ≡ one (has ys x) = ap (λ (c : Bool). one (c || has ys x)) s in
    omega arith)
    (cases_Bool (same_name y x))

and_true : (b : Bool) → (b && true) ≡ b
and_true true = refl
and_true false = refl

module _ (o : Outline) (u : ℕ) where
  pub number_same : (p q : Name → Bool) (xs : List Name) → ((y : Name) → In y xs → p y ≡ q y) → number_at o p u xs ≡ number_at o q u xs
  number_same p q xs h = count_agree (λ y. p y && time_of o y == u) (λ y. q y && time_of o y == u) xs (λ y i. ap (λ (b : Bool). b && time_of o y == u) (h y i))

  -- the first of two tests passes one more name, which counts where the list has it and the time is its own
  pub number_more : (p q : Name → Bool) (x : Name) (xs : List Name) → Distinct xs → p x ≡ true → q x ≡ false → ((y : Name) → In y xs → same_name x y ≡ false → p y ≡ q y) → number_at o p u xs ≡ number_at o q u xs + cond (has xs x && time_of o x == u) 1 0
  number_more p q x xs d a b h = ⊎_elim now then (cases_Bool (time_of o x == u))
    where
      now : (time_of o x == u) ≡ true → number_at o p u xs ≡ number_at o q u xs + cond (has xs x && time_of o x == u) 1 0
      now e =
          let a' : (p x && time_of o x == u) ≡ true = ap (λ (c : Bool). c && time_of o x == u) a ∙ e in
          let b' : (q x && time_of o x == u) ≡ false = ap (λ (c : Bool). c && time_of o x == u) b in
          let m = count_more (λ y. p y && time_of o y == u) (λ y. q y && time_of o y == u) x xs d a' b' (λ y i n. ap (λ (c : Bool). c && time_of o y == u) (h y i n)) in
          let f : one (has xs x && time_of o x == u) ≡ one (has xs x) = ap (λ (c : Bool). one (has xs x && c)) e ∙ ap one (and_true (has xs x)) in
          omega arith

      then : (time_of o x == u) ≡ false → number_at o p u xs ≡ number_at o q u xs + cond (has xs x && time_of o x == u) 1 0
      then e =
          let m = count_agree (λ y. p y && time_of o y == u) (λ y. q y && time_of o y == u) xs (λ y i. agree y i e (cases_Bool (same_name x y))) in
          let f : one (has xs x && time_of o x == u) ≡ 0 = ap one (and_right (has xs x) (time_of o x == u) e) in
          omega arith
        where
          agree : (y : Name) → In y xs → (time_of o x == u) ≡ false → (same_name x y ≡ true) ⊎ (same_name x y ≡ false) → (p y && time_of o y == u) ≡ (q y && time_of o y == u)
          agree y i e c =
              ⊎_elim
              (λ (s : same_name x y ≡ true).
              let t : (time_of o y == u) ≡ false = subst (λ (z : Name). (time_of o z == u) ≡ false) (same_name-true x y s) e in
              and_right (p y) (time_of o y == u) t ∙ sym (and_right (q y) (time_of o y == u) t))
              (λ (s : same_name x y ≡ false). ap (λ (c : Bool). c && time_of o y == u) (h y i s))
              c

  -- the same, by what is known of the list
  pub number_placed : (p q : Name → Bool) (x : Name) (c : Bool) (xs : List Name) → has xs x ≡ c → Distinct xs → p x ≡ true → q x ≡ false → ((y : Name) → In y xs → same_name x y ≡ false → p y ≡ q y) → number_at o p u xs ≡ number_at o q u xs + cond (c && time_of o x == u) 1 0
  number_placed p q x c xs e d a b h = number_more p q x xs d a b h ∙ ap (λ (b : Bool). number_at o q u xs + cond (b && time_of o x == u) 1 0) e

  -- a list without the name counts the same
  pub number_kept : (p q : Name → Bool) (x : Name) (xs : List Name) → has xs x ≡ false → ((y : Name) → same_name x y ≡ false → p y ≡ q y) → number_at o p u xs ≡ number_at o q u xs
  number_kept p q x xs e h =
      number_same p q xs (λ y i. h y (false_from_ne_true (same_name x y) (λ s. both_ways (has xs x) e (subst (λ (z : Name). In z xs) (sym (same_name-true x y s)) i))))
