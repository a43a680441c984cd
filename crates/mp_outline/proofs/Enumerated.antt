-- Elements with their places, counted from a number.
use Rattle.std.proofs.Common.{◌≡◌, ℕ, ◌+◌, ◌<◌, Some, List, length, get_or, Contains, slice_get, sym, ap, ◌∙◌, arith}
use Rattle.std.specs.List.{enumerate_from}
use Rattle.std.proofs.lemmas.List.FromFn.{length-enumerate_from, get_or-enumerate_from}
use Rattle.std.proofs.lemmas.Option.{get_or_from_slice_get, slice_get-get_or, slice_get_within}

module _ {X : Type 0} where
  -- an element stands at the place that stands with it
  pub placed_at : (n : ℕ) (xs : List X) (p : ℕ × X) → Contains (enumerate_from n xs) p → (m : ℕ) × (p.0 ≡ n + m) × (slice_get xs m ≡ Some p.1)
  placed_at n xs p h =
      let there : h.0 < length (enumerate_from n xs) = h.1 in
      let l : h.0 < length xs = omega (arith, length-enumerate_from n xs) in
      let e : p ≡ (n + h.0, get_or xs h.0 p.1) = sym h.2 ∙ get_or-enumerate_from n xs h.0 p l in
      (h.0, ap (λ (r : ℕ × X). r.0) e, slice_get-get_or xs h.0 p.1 l ∙ ap Some (sym (ap (λ (r : ℕ × X). r.1) e)))

  -- and each element stands there with its place
  pub stands_placed : (n : ℕ) (xs : List X) (m : ℕ) (x : X) → slice_get xs m ≡ Some x → Contains (enumerate_from n xs) (n + m, x)
  stands_placed n xs m x e =
      let l : m < length xs = slice_get_within xs m x e in
      let there : m < length (enumerate_from n xs) = omega (arith, length-enumerate_from n xs) in
      (m, there, get_or-enumerate_from n xs m (n + m, x) l ∙ ap (λ (z : X). (n + m, z)) (get_or_from_slice_get xs m x x e))
