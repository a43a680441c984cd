-- Changes at one location, at times that stand once each.
use Rattle.std.proofs.Common.{◌≡◌, ◌≢◌, ℕ, suc, ◌==◌, Bool, true, false, cond, List, [], ◌∷◌, map, ℤ, refl, ap, ⊎_elim, arith}
use Rattle.std.specs.List.{All, AllPairs, Contains, sum_by}
use Rattle.std.proofs.lemmas.Bool.{cases_Bool, eqb-false, eqb-true}
use Rattle.std.proofs.lemmas.List.Elements.{All-contains, All-map, All-weaker}
use Rattle.std.proofs.lemmas.List.Kept.{AllPairs-cons}
use Rattle.std.proofs.lemmas.List.Sums.{sum_by-cons}
use Rattle.std.proofs.lemmas.Map.Made.{Contains-tail}
use Rattle.mp_names.specs.declared.locations.Loc.{Loc}
use Rattle.mp_ordered.proofs.Placing.{pairs_head, pairs_tail}
use Rattle.mp_rows.specs.Entries.{change_at}
use Rattle.mp_rows_laws.proofs.Entries.{IsApart, none_once, same_time_of}

-- each place once
pub once_at : {X : Type 0} (at : Loc) (f : X → ℕ) (z : X → ℤ) (xs : List X) → AllPairs (λ x y. f x ≢ f y) xs → AllPairs IsApart (map (λ x. change_at at (f x) (z x)) xs)
once_at at f z [] h = none_once
once_at {X} at f z (x ∷ xs) h =
    AllPairs-cons IsApart (change_at at (f x) (z x)) (map (λ x. change_at at (f x) (z x)) xs)
    (All-map (IsApart (change_at at (f x) (z x))) (λ x. change_at at (f x) (z x)) xs (apart xs (pairs_head (λ x y. f x ≢ f y) x xs h)))
    (once_at at f z xs (pairs_tail (λ x y. f x ≢ f y) x xs h))
  where
    apart : (ys : List X) → All (λ y. f x ≢ f y) ys → All (λ y. IsApart (change_at at (f x) (z x)) (change_at at (f y) (z y))) ys
    apart ys a = All-weaker (λ y. f x ≢ f y) (λ y. IsApart (change_at at (f x) (z x)) (change_at at (f y) (z y))) (λ y n e. n (same_time_of (change_at at (f x) (z x)) (change_at at (f y) (z y)) e)) ys a

-- how often a time stands in a list that has each once

abbrev pub times_in : List ℕ → ℕ → ℕ
times_in us u = sum_by (λ v. cond (v == u) 1 0) us

abbrev one : Bool → ℕ
one b = cond b 1 0

pub none_there : (us : List ℕ) (u : ℕ) → (Contains us u → ⊥) → times_in us u ≡ 0
none_there [] u h = refl
none_there (v ∷ vs) u h =
    let s = sum_by-cons (λ v. cond (v == u) 1 0) v vs in
    let rest = none_there vs u (λ c. h (suc c.0, (let l = c.1 in omega arith), c.2)) in
    ⊎_elim
    (λ (e : (v == u) ≡ true). absurd (h (0, omega arith, eqb-true v u e)))
    (λ (e : (v == u) ≡ false). let a : one (v == u) ≡ 0 = ap one e in omega arith)
    (cases_Bool (v == u))

pub once_there : (us : List ℕ) (u : ℕ) → AllPairs (λ u v. u ≢ v) us → Contains us u → times_in us u ≡ 1
once_there [] u h c = absurd (let l = c.1 in omega arith)
once_there (v ∷ vs) u h c =
    let s = sum_by-cons (λ v. cond (v == u) 1 0) v vs in
    ⊎_elim
    (λ (e : (v == u) ≡ true).
    let a : one (v == u) ≡ 1 = ap one e in
    let rest = none_there vs u (λ d. All-contains (λ x. v ≢ x) vs u (pairs_head (λ u v. u ≢ v) v vs h) d (eqb-true v u e)) in
    omega arith)
    (λ (e : (v == u) ≡ false).
    let a : one (v == u) ≡ 0 = ap one e in
    let rest = once_there vs u (pairs_tail (λ u v. u ≢ v) v vs h) (Contains-tail v vs u (eqb-false v u e) c) in
    omega arith)
    (cases_Bool (v == u))
