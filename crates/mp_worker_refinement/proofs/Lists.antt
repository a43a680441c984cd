-- Lists with one element more, or with another at one place.
use Rattle.std.proofs.Common.{◌≡◌, ◌≢◌, ◌⊎◌, ℕ, zero, suc, ◌<◌, ◌==◌, Bool, true, false, cond, List, [], ◌∷◌, ◌++◌, None, Some, filter, length, set, refl, sym, ap, ◌∙◌, subst, inl, inr, ⊎_elim, arith, append-nil}
use Rattle.std.specs.Prelude.{slice_get}
use Rattle.std.proofs.lemmas.Bool.{cases_eq, cond-false, cond-true, eq-eqb, ne_eqb}
use Rattle.std.proofs.lemmas.List.Elements.{filter-append}
use Rattle.mp_names.specs.declared.names.Name.{Name}
use Rattle.mp_names.specs.Names.{In}
use Rattle.mp_names.proofs.Lists.{In_here, In_later}
use Rattle.mp_worker_refinement.specs.Ends.{behind, in_one_message}

-- names of which each passes the test, and of which none does

filter_whole : (p : Name → Bool) (xs : List Name) → ((x : Name) → In x xs → p x ≡ true) → filter p xs ≡ xs
filter_whole p [] all = refl
filter_whole p (x ∷ xs) all = cond-true (p x) (x ∷ filter p xs) (filter p xs) (all x (In_here x xs)) ∙ ap (λ (l : List Name). x ∷ l) (filter_whole p xs (λ y i. all y (In_later y x xs i)))

filter_nothing : (p : Name → Bool) (xs : List Name) → ((x : Name) → In x xs → p x ≡ false) → filter p xs ≡ []
filter_nothing p [] none = refl
filter_nothing p (x ∷ xs) none = cond-false (p x) (x ∷ filter p xs) (filter p xs) (none x (In_here x xs)) ∙ filter_nothing p xs (λ y i. none y (In_later y x xs i))

-- names with this end, behind others
pub filter_more : (end : Name → ℕ) (b : ℕ) (xs ys : List Name) → ((y : Name) → In y ys → end y ≡ b) → filter (λ y. end y == b) (xs ++ ys) ≡ filter (λ y. end y == b) xs ++ ys
filter_more end b xs ys all =
    filter-append (λ y. end y == b) xs ys ∙ ap (λ (l : List Name). filter (λ y. end y == b) xs ++ l) (filter_whole (λ y. end y == b) ys (λ y i. eq-eqb (end y) b (all y i)))

-- and with another
pub filter_same : (end : Name → ℕ) (b : ℕ) (xs ys : List Name) → ((y : Name) → In y ys → end y ≢ b) → filter (λ y. end y == b) (xs ++ ys) ≡ filter (λ y. end y == b) xs
filter_same end b xs ys none =
    filter-append (λ y. end y == b) xs ys
    ∙ ap (λ (l : List Name). filter (λ y. end y == b) xs ++ l) (filter_nothing (λ y. end y == b) ys (λ y i. ne_eqb (end y) b (none y i)))
    ∙ append-nil (filter (λ y. end y == b) xs)

-- what stands behind the beginning of a list
pub behind_append : (xs ys : List Name) → behind xs (xs ++ ys) ≡ ys
behind_append [] ys = refl
behind_append (x ∷ xs) ys = behind_append xs ys

pub behind_self : (xs : List Name) → behind xs xs ≡ []
behind_self [] = refl
behind_self (x ∷ xs) = behind_self xs

pub one_message : (xs : List Name) → 0 < length xs → in_one_message xs ≡ xs ∷ []
one_message [] some = absurd (omega arith)
one_message (x ∷ xs) some = refl

-- two edges are one, or one of their ends differs
pub same_edge : (a b from to : ℕ) → ((a ≡ from) × (b ≡ to)) ⊎ ((a ≢ from) ⊎ (b ≢ to))
same_edge a b from to =
    ⊎_elim
    (λ (e : a ≡ from). ⊎_elim (λ (f : b ≡ to). inl (e, f)) (λ (f : b ≢ to). inr (inr f)) (cases_eq b to))
    (λ (e : a ≢ from). inr (inl e))
    (cases_eq a from)

-- what holds of an edge
pub at_edge : (P : ℕ → ℕ → Type 0) {a b from to : ℕ} → (a ≡ from) × (b ≡ to) → P from to → P a b
at_edge P {a} {b} {from} {to} same h = subst (λ (n : ℕ). P n b) (sym same.0) (subst (λ (n : ℕ). P from n) (sym same.1) h)

pub some_is : {X : Type 0} (x y : X) → Some x ≡ Some y → x ≡ y
some_is x y e = cc

not_some : {X : Type 0} (x : X) → None ≡ Some x → ⊥
not_some x e = cc

-- what holds of the new element at its place, and of each old one at another, holds of all
pub set_all : {X : Type 0} (P : ℕ → X → Type 0) (xs : List X) (i : ℕ) (x : X) → P i x → ((v : ℕ) (y : X) → (v ≡ i → ⊥) → slice_get xs v ≡ Some y → P v y) → (v : ℕ) (y : X) → slice_get (set xs i x) v ≡ Some y → P v y
set_all P [] i x here others v y e = absurd (not_some y e)
set_all P (z ∷ xs) zero x here others zero y e = subst (P 0) (some_is x y e) here
set_all P (z ∷ xs) zero x here others (suc v) y e = others (suc v) y (λ f. omega arith) e
set_all P (z ∷ xs) (suc i) x here others zero y e = others zero y (λ f. omega arith) e
set_all P (z ∷ xs) (suc i) x here others (suc v) y e = set_all (λ n. P (suc n)) xs i x here (λ u a n f. others (suc u) a (λ g. n (omega arith)) f) v y e

-- a function of a choice
pub of_chosen : {X Y : Type 0} (f : X → Y) (b : Bool) (x y : X) → cond b (f x) (f y) ≡ f (cond b x y)
of_chosen f true x y = refl
of_chosen f false x y = refl
