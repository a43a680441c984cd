-- What a search of a part of a list finds in the whole.
use Rattle.std.proofs.Common.{◌≡◌, ◌∙◌, ◌<◌, ◌+◌, ℕ, List, Ok, arith, drop, length, subst, take}
use Rattle.std.specs.declared.result.Result.{Result}
use Rattle.std.specs.declared.cmp.Ordering.TheVariants.{Equal}
use Rattle.std.specs.List.Sorted.{IsBinarySearchResult, IsSearchInRange}
use Rattle.std.specs.Ordering.{nat_cmp}
use Rattle.std.proofs.lemmas.List.{get_or-drop, get_or-take, length-take}

pub found_in_part : (xs : List ℕ) (t n from i : ℕ) (r : Result ℕ ℕ) → r ≡ Ok i → IsSearchInRange r (length (take n (drop from xs))) → IsBinarySearchResult (λ u. nat_cmp u t) (take n (drop from xs)) r
    → IsBinarySearchResult (λ u. nat_cmp u t) xs (Ok (from + i))
found_in_part xs t n from i r e inside found =
    let l : i < length (take n (drop from xs)) = subst (λ (o : Result ℕ ℕ). IsSearchInRange o (length (take n (drop from xs)))) e inside in
    let here = subst (λ (o : Result ℕ ℕ). IsBinarySearchResult (λ u. nat_cmp u t) (take n (drop from xs)) o) e found in
    let small : i < n = omega (arith, l, length-take n (drop from xs)) in
    λ d. subst (λ (u : ℕ). nat_cmp u t ≡ Equal) (get_or-take n (drop from xs) i d small ∙ get_or-drop from xs i d) (here d)
