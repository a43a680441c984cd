-- Lists of the names of things.
use Rattle.std.proofs.Common.{◌≡◌, ℕ, ◌<◌, Bool, true, false, cond, List, [], ◌∷◌, map, count_by, Contains, refl, sym, ap, subst, ⊎_elim, arith}
use Rattle.std.proofs.lemmas.Bool.{false≢true, false_from_ne_true}
use Rattle.std.proofs.lemmas.List.Sums.{sum_by-cons}
use Rattle.mp_names.specs.declared.names.Name.{Name}
use Rattle.mp_names.specs.Names.{has, In, Distinct}
use Rattle.mp_names.specs.Outlines.{StandByIndex, index_of}
use Rattle.mp_names.proofs.Lists.{In_here, In_later, In_cases}
use Rattle.mp_job.proofs.Members.{nothing_in_nil, Contains-here, Contains-later, Contains-cases}
use Rattle.mp_outline.proofs.Pairs.{Pairs}

module _ {X : Type 0} (f : X → Name) where
  -- a name is that of a thing
  pub In_named : (xs : List X) (n : Name) → In n (map f xs) → (x : X) × Contains xs x × (f x ≡ n)
  In_named [] n h = absurd (false≢true h)
  In_named (x ∷ xs) n h =
      ⊎_elim
      (λ (e : f x ≡ n). (x, Contains-here x xs, e))
      (λ (i : In n (map f xs)). let a = In_named xs n i in (a.0, Contains-later x a.0 xs a.1, a.2))
      (In_cases n (f x) (map f xs) h)

  -- and each thing has its name there
  pub named_In : (xs : List X) (x : X) → Contains xs x → In (f x) (map f xs)
  named_In [] x h = absurd (nothing_in_nil x h)
  named_In (y ∷ ys) x h =
      ⊎_elim
      (λ (e : y ≡ x). subst (λ (z : X). In (f z) (f y ∷ map f ys)) e (In_here (f y) (map f ys)))
      (λ (i : Contains ys x). In_later (f x) (f y) (map f ys) (named_In ys x i))
      (Contains-cases y x ys h)

  -- where no two things have one name each name stands once
  pub named_once : (xs : List X) → Pairs (λ x y. f x ≡ f y → ⊥) xs → Distinct (map f xs)
  named_once [] h = tt
  named_once (x ∷ xs) h = (false_from_ne_true (has (map f xs) (f x)) (λ i. let a = In_named xs (f x) i in h.0 a.0 a.1 (sym a.2)), named_once xs h.1)

  -- as many names pass a test as things pass it by their names
  pub count_named : (p : Name → Bool) (r : X → Bool) (xs : List X) → ((x : X) → Contains xs x → p (f x) ≡ r x) → count_by p (map f xs) ≡ count_by r xs
  count_named p r [] h = refl
  count_named p r (x ∷ xs) h =
      let a = sum_by-cons (λ (n : Name). cond (p n) 1 0) (f x) (map f xs) in
      let b = sum_by-cons (λ (y : X). cond (r y) 1 0) x xs in
      let c : cond {A = ℕ} (p (f x)) 1 0 ≡ cond {A = ℕ} (r x) 1 0 = ap (λ (b : Bool). cond {A = ℕ} b 1 0) (h x (Contains-here x xs)) in
      let d = count_named p r xs (λ y i. h y (Contains-later x y xs i)) in
      omega arith

  -- where indices rise the names stand by them
  pub named_by_index : (xs : List X) → Pairs (λ x y. index_of (f x) < index_of (f y)) xs → StandByIndex (map f xs)
  named_by_index [] h = tt
  named_by_index (x ∷ xs) h = (
    (λ n i. let a = In_named xs n i in subst (λ (m : Name). index_of (f x) < index_of m) a.2 (h.0 a.0 a.1)),
    named_by_index xs h.1,
  )

-- a list that is there under a condition
pub In_if : (b : Bool) (xs : List Name) (x : Name) → In x (cond b xs []) → (b ≡ true) × In x xs
In_if true xs x h = (refl, h)
In_if false xs x h = absurd (false≢true h)

pub if_In : (b : Bool) (xs : List Name) (x : Name) → b ≡ true → In x xs → In x (cond b xs [])
if_In true xs x e h = h
if_In false xs x e h = absurd (false≢true e)
