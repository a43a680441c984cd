-- Lists whose first items are gone.
use Rattle.std.proofs.Common.{◌≡◌, ℕ, zero, suc, ◌+◌, ◌≤◌, List, [], ◌∷◌, ◌++◌, length, get_or, set, take, drop, refl, ap, sym, ◌∙◌, arith}
use Rattle.std.specs.declared.collections.VecDeque.{VecDeque}
use Rattle.std.specs.List.{remove}
use Rattle.std.specs.VecDeque.{deque_capacity}
use Rattle.std.proofs.lemmas.List.{get_or-drop}
use Rattle.mp_ordered.specs.Blocks.{IsSplit}

next : (g n : ℕ) → suc g + n ≡ suc (g + n)
next g n = omega arith

module _ {X : Type 0} where
  -- a change behind them
  pub set_behind : (xs : List X) (g at : ℕ) (x : X) → drop g (set xs (g + at) x) ≡ set (drop g xs) at x
  set_behind xs zero at x = let e : 0 + at ≡ at = omega arith in ap (λ i. set xs i x) e
  set_behind [] (suc g) at x = refl
  set_behind (y ∷ xs) (suc g) at x = ap (λ i. drop (suc g) (set (y ∷ xs) i x)) (next g at) ∙ set_behind xs g at x

  pub remove_behind : (xs : List X) (g at : ℕ) → drop g (remove xs (g + at)) ≡ remove (drop g xs) at
  remove_behind xs zero at = let e : 0 + at ≡ at = omega arith in ap (λ i. remove xs i) e
  remove_behind [] (suc g) zero = ap (λ i. drop (suc g) (remove {X = X} [] i)) (next g 0)
  remove_behind [] (suc g) (suc at) = ap (λ i. drop (suc g) (remove {X = X} [] i)) (next g (suc at))
  remove_behind (y ∷ xs) (suc g) at = ap (λ i. drop (suc g) (remove (y ∷ xs) i)) (next g at) ∙ remove_behind xs g at

  pub two_behind : (xs : List X) (g at : ℕ) (l u : X) → g ≤ length xs → drop g (take (g + at) xs ++ l ∷ u ∷ drop (suc (g + at)) xs) ≡ take at (drop g xs) ++ l ∷ u ∷ drop (suc at) (drop g xs)
  two_behind xs zero at l u m = let e : 0 + at ≡ at = omega arith in ap (λ i. take i xs ++ l ∷ u ∷ drop (suc i) xs) e
  two_behind [] (suc g) at l u m = absurd (omega arith)
  two_behind (y ∷ xs) (suc g) at l u m = ap (λ i. drop (suc g) (take i (y ∷ xs) ++ l ∷ u ∷ drop (suc i) (y ∷ xs))) (next g at) ∙ two_behind xs g at l u (omega arith)

  -- the first of those that aren't gone
  pub first_left : (xs : List X) (g : ℕ) (d : X) → get_or (drop g xs) 0 d ≡ get_or xs g d
  first_left xs zero d = refl
  first_left [] (suc g) d = refl
  first_left (y ∷ xs) (suc g) d = first_left xs g d

  pub set_first_left : (xs : List X) (g : ℕ) (x : X) → drop g (set xs g x) ≡ set (drop g xs) 0 x
  set_first_left xs zero x = refl
  set_first_left [] (suc g) x = refl
  set_first_left (y ∷ xs) (suc g) x = set_first_left xs g x

  -- where all are gone
  pub all_gone : (xs : List X) (n : ℕ) → length xs ≤ n → drop n xs ≡ []
  all_gone [] zero l = refl
  all_gone [] (suc n) l = refl
  all_gone (y ∷ xs) zero l = absurd (omega arith)
  all_gone (y ∷ xs) (suc n) l = all_gone xs n (omega arith)

  pub one_behind : (xs : List X) (n : ℕ) (x : X) → n ≡ length xs → drop n (xs ++ x ∷ []) ≡ x ∷ []
  one_behind [] zero x e = refl
  one_behind [] (suc n) x e = absurd (omega arith)
  one_behind (y ∷ xs) zero x e = absurd (omega arith)
  one_behind (y ∷ xs) (suc n) x e = one_behind xs n x (omega arith)

module _ {T Z : Type 0} where
  pub split_behind : (g at : ℕ) (xs ys : List (VecDeque T Z)) → g ≤ length xs → IsSplit (g + at) xs ys → IsSplit at (drop g xs) (drop g ys)
  split_behind g at xs ys l s =
      let there = get_or-drop g xs at s.lower in
      record {
        lower = s.lower;
        upper = s.upper;
        is = ap (λ v. drop g v) s.is ∙ two_behind xs g at s.lower s.upper l;
        items = s.items ∙ ap (λ v. v.items) (sym there);
        halves = s.halves;
        memory = (omega (arith, s.memory.0, ap (λ v. deque_capacity v) there), s.memory.1);
      }
