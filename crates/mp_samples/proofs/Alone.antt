-- A map with one entry.
use Rattle.std.proofs.Common.{◌≡◌, ℕ, suc, zero, ◌<◌, Bool, Option, None, Some, List, [], ◌∷◌, IsPermutation, is_some, get_or, length, refl, sym, ap, ◌∙◌, subst, arith}
use Rattle.std.proofs.lemmas.Bool.{false≢true}
use Rattle.std.proofs.lemmas.List.Sorted.{Contains-permutation, length_permutation}
use Rattle.std.specs.HashMap.{HashMap, PutsEntry, get}
use Rattle.std.specs.Map.{lookup}

-- one item is alone in any order
one_moved : {X : Type 0} (x : X) (ys : List X) → IsPermutation (x ∷ []) ys → ys ≡ x ∷ []
one_moved x [] moved = let one : 0 ≡ 1 = length_permutation (x ∷ []) [] moved in absurd (omega (arith, one))
one_moved x (y ∷ []) moved =
    let there = Contains-permutation (x ∷ []) (y ∷ []) x moved (0, omega arith, refl) in
    at there.0 there.1 there.2
  where
    at : (i : ℕ) → i < 1 → get_or (y ∷ []) i x ≡ x → y ∷ [] ≡ x ∷ []
    at zero l e = ap (λ (z : _). z ∷ []) e
    at (suc i) l e = absurd (omega arith)
one_moved x (y ∷ z ∷ zs) moved = let one : length (y ∷ z ∷ zs) ≡ 1 = length_permutation (x ∷ []) (y ∷ z ∷ zs) moved in absurd (omega arith)

-- an entry that is put into an empty map is its only one
pub put_alone : {K X S : Type 0} (eq : K → K → Bool) (none one : HashMap K X S) (k : K) (v : X) (old : Option X) → none.entries ≡ [] → old ≡ get eq none k → PutsEntry eq none one k v old → one.entries ≡ (k, v) ∷ []
put_alone eq none one k v None e is puts = one_moved (k, v) one.entries (subst (λ (es : List _). IsPermutation ((k, v) ∷ es) one.entries) e puts)
put_alone eq none one k v (Some w) e is puts = absurd (false≢true (sym (ap is_some (is ∙ ap (λ (es : List _). lookup (eq k) es) e))))
