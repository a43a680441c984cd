-- Numbers in order, each once: which numbers are there tells the list.
use Rattle.std.proofs.Common.{◌≡◌, ◌<◌, ◌==◌, ◌||◌, ℕ, Bool, true, false, cond, nat_lt, List, [], ◌∷◌, fold, All, refl, sym, ap, ◌∙◌, subst, arith}
use Rattle.std.specs.List.{list_any}
use Rattle.std.proofs.lemmas.Bool.{eq-eqb, eqb-true, false≢true, ltb-false, ltb-true, ne_eqb}
use Rattle.std.proofs.lemmas.List.Elements.{All-cons, All-head, All-nil, All-tail, All-weaker}
use Rattle.std.proofs.lemmas.List.Folds.{list_any_none}
use Rattle.mp_model.proofs.Lists.{All-ascending}
use Rattle.mp_model.specs.Ascending.{ascending, placed}

-- the number is in the list
abbrev pub has : ℕ → List ℕ → Bool
has u xs = list_any (λ v. v == u) xs

-- each number is below all later ones
abbrev pub Ascends : List ℕ → Type 0
Ascends [] = Unit {0}
Ascends (x ∷ xs) = All (λ y. x < y) xs × Ascends xs

or_again : (a b : Bool) → (a || b) ≡ (a || (a || b))
or_again true b = refl
or_again false b = refl

pub or_swapped : (a b c : Bool) → (a || (b || c)) ≡ (b || (a || c))
or_swapped true true c = refl
or_swapped true false c = refl
or_swapped false true c = refl
or_swapped false false c = refl

-- what holds of the numbers of a list and of one more
All-placed : (P : ℕ → Type 0) (xs : List ℕ) (x : ℕ) → All P xs → P x → All P (placed xs x)
All-placed P [] x all h = All-cons P x [] h (All-nil P)
All-placed P (y ∷ ys) x all h = by (nat_lt x y) (x == y) (All-placed P ys x (All-tail P y ys all) h)
  where
    by : (less same : Bool) → All P (placed ys x) → All P (cond less (x ∷ y ∷ ys) (cond same (y ∷ ys) (y ∷ placed ys x)))
    by true same more = All-cons P x (y ∷ ys) h all
    by false true more = all
    by false false more = All-cons P y (placed ys x) (All-head P y ys all) more

placed_ascends : (xs : List ℕ) (x : ℕ) → Ascends xs → Ascends (placed xs x)
placed_ascends [] x a = (All-nil (λ (y : ℕ). x < y), tt)
placed_ascends (y ∷ ys) x a = by (nat_lt x y) (x == y) refl refl (placed_ascends ys x a.1)
  where
    by : (less same : Bool) → nat_lt x y ≡ less → (x == y) ≡ same → Ascends (placed ys x) → Ascends (cond less (x ∷ y ∷ ys) (cond same (y ∷ ys) (y ∷ placed ys x)))
    by true same l e more =
        let low : x < y = ltb-true x y l in
        (All-cons (λ (z : ℕ). x < z) y ys low (All-weaker (λ (z : ℕ). y < z) (λ (z : ℕ). x < z) (λ z h. omega arith) ys a.0), a)
    by false true l e more = a
    by false false l e more =
        let low : y < x = omega (arith, ltb-false x y l, (λ (s : x ≡ y). false≢true (sym e ∙ eq-eqb x y s))) in
        (All-placed (λ (z : ℕ). y < z) ys x a.0 low, more)

fold_ascends : (xs ys : List ℕ) → Ascends xs → Ascends (fold placed xs ys)
fold_ascends xs [] a = a
fold_ascends xs (y ∷ ys) a = fold_ascends (placed xs y) ys (placed_ascends xs y a)

ascending_ascends : (xs : List ℕ) → Ascends (ascending xs)
ascending_ascends xs = fold_ascends [] xs tt

module _ (u : ℕ) where
  has-placed : (xs : List ℕ) (x : ℕ) → has u (placed xs x) ≡ (x == u || has u xs)
  has-placed [] x = refl
  has-placed (y ∷ ys) x = by (nat_lt x y) (x == y) refl (has-placed ys x)
    where
      by : (less same : Bool) → (x == y) ≡ same → has u (placed ys x) ≡ (x == u || has u ys) → has u (cond less (x ∷ y ∷ ys) (cond same (y ∷ ys) (y ∷ placed ys x))) ≡ (x == u || (y == u || has u ys))
      by true same e rest = refl
      by false true e rest = rw (eqb-true x y e) (or_again (y == u) (has u ys))
      by false false e rest = rw rest (or_swapped (y == u) (x == u) (has u ys))

  has-fold : (xs ys : List ℕ) → has u (fold placed xs ys) ≡ (has u xs || has u ys)
  has-fold xs [] = by (has u xs)
    where
      by : (b : Bool) → b ≡ (b || false)
      by true = refl
      by false = refl
  has-fold xs (y ∷ ys) = has-fold (placed xs y) ys ∙ rw (has-placed xs y) (by (y == u) (has u xs))
    where
      by : (a b : Bool) → ((a || b) || has u ys) ≡ (b || (a || has u ys))
      by true true = refl
      by true false = refl
      by false true = refl
      by false false = refl

  pub has-ascending : (xs : List ℕ) → has u (ascending xs) ≡ has u xs
  has-ascending xs = has-fold [] xs

-- a number below all others isn't among them
pub has_no_lower : (x : ℕ) (xs : List ℕ) → All (λ y. x < y) xs → has x xs ≡ false
has_no_lower x xs h = list_any_none (λ (y : ℕ). y == x) xs (All-weaker (λ (y : ℕ). x < y) (λ (y : ℕ). (y == x) ≡ false) (λ y l. ne_eqb y x (λ e. omega arith)) xs h)

same_self : (x : ℕ) (b : Bool) → (x == x || b) ≡ true
same_self x b = rw (eq-eqb x x refl) refl

not_lower : (x y : ℕ) (xs ys : List ℕ) → Ascends (y ∷ ys) → has x (x ∷ xs) ≡ has x (y ∷ ys) → x < y → ⊥
not_lower x y xs ys b e low =
    let above : All (λ z. x < z) ys = All-weaker (λ (z : ℕ). y < z) (λ (z : ℕ). x < z) (λ z h. omega arith) ys b.0 in
    false≢true (sym (has_no_lower x (y ∷ ys) (All-cons (λ (z : ℕ). x < z) y ys low above)) ∙ sym e ∙ same_self x (has x xs))

same_others : (x : ℕ) (xs ys : List ℕ) → All (λ y. x < y) xs → All (λ y. x < y) ys → (u : ℕ) → (x == u || has u xs) ≡ (x == u || has u ys) → has u xs ≡ has u ys
same_others x xs ys a b u e = by (x == u) refl e
  where
    by : (c : Bool) → (x == u) ≡ c → (c || has u xs) ≡ (c || has u ys) → has u xs ≡ has u ys
    by true s e = subst (λ v. has v xs ≡ has v ys) (eqb-true x u s) (has_no_lower x xs a ∙ sym (has_no_lower x ys b))
    by false s e = e

-- ascending lists are the same where the same numbers are there
pub same_lists : (xs ys : List ℕ) → Ascends xs → Ascends ys → ((u : ℕ) → has u xs ≡ has u ys) → xs ≡ ys
same_lists [] [] a b same = refl
same_lists [] (y ∷ ys) a b same = absurd (false≢true (same y ∙ same_self y (has y ys)))
same_lists (x ∷ xs) [] a b same = absurd (false≢true (sym (same x) ∙ same_self x (has x xs)))
same_lists (x ∷ xs) (y ∷ ys) a b same =
    let e : x ≡ y = omega (arith, not_lower x y xs ys b (same x), not_lower y x ys xs a (sym (same y))) in
    let above : All (λ v. x < v) ys = subst (λ z. All (λ v. z < v) ys) (sym e) b.0 in
    let rest = same_lists xs ys a.1 b.1 (λ u. same_others x xs ys a.0 above u (same u ∙ ap (λ z. z == u || has u ys) (sym e))) in
    λ i. e i ∷ rest i

-- lists of the same numbers
pub ascending_same : (xs ys : List ℕ) → ((u : ℕ) → has u xs ≡ has u ys) → ascending xs ≡ ascending ys
ascending_same xs ys same =
    same_lists (ascending xs) (ascending ys) (ascending_ascends xs) (ascending_ascends ys) (λ u. has-ascending u xs ∙ same u ∙ sym (has-ascending u ys))

-- a list of a number and of greater ones
pub ascending_first : (x : ℕ) (xs ys : List ℕ) → All (λ y. x < y) ys → ((u : ℕ) → has u xs ≡ (x == u || has u ys)) → ascending xs ≡ x ∷ ascending ys
ascending_first x xs ys above same =
    same_lists (ascending xs) (x ∷ ascending ys) (ascending_ascends xs) (All-ascending (λ (y : ℕ). x < y) ys above, ascending_ascends ys)
    (λ u. has-ascending u xs ∙ same u ∙ ap (λ b. x == u || b) (sym (has-ascending u ys)))
