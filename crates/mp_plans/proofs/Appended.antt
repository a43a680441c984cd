-- Items of a function of the index, appended one by one.
use Rattle.std.proofs.Common.{◌≡◌, ◌+◌, ◌++◌, [], ◌∷◌, ◌∙◌, ap, arith, length, map, ℕ, List, sym, append_assoc, length-append}
use Rattle.std.specs.List.{range_with_len}
use Rattle.std.proofs.lemmas.List.FromFn.{length-map-range_with_len, map-range_with_len_more}

-- with one more item of a function of the index the list is that of one more index
pub one_more : {X : Type 0} (f : ℕ → X) (first old new : List X) (n : ℕ) (x : X) → old ≡ first ++ map f (range_with_len 0 n) → new ≡ old ++ x ∷ [] → x ≡ f n
    → new ≡ first ++ map f (range_with_len 0 (n + 1))
one_more f first old new n x before is same =
    is ∙ (ap (λ l. l ++ x ∷ []) before ∙ (append_assoc first (map f (range_with_len 0 n)) (x ∷ []) ∙ ap (λ l. first ++ l) (ap (λ y. map f (range_with_len 0 n) ++ y ∷ []) same ∙ sym (map-range_with_len_more f 0 n n (omega arith)))))

pub so_long : {X : Type 0} (f : ℕ → X) (first now : List X) (n : ℕ) → now ≡ first ++ map f (range_with_len 0 n) → length now ≡ length first + n
so_long f first now n is = ap length is ∙ omega (arith, length-append first (map f (range_with_len 0 n)), length-map-range_with_len f 0 n)
