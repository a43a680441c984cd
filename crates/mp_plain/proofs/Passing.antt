-- Lists of workers, as one goes from each to the next.
use Rattle.std.proofs.Common.{◌≡◌, ℕ, zero, suc, ◌+◌, ◌≤◌, List, [], ◌∷◌, ◌++◌, Some, append-nil, ap, arith, drop, length, map, refl, set, sym, take, ◌∙◌}
use Rattle.std.specs.Prelude.{slice_get}
use Rattle.std.proofs.lemmas.List.{drop_all, take-append-le, take_all}

-- the first i elements are changed, and the others are as they were
abbrev pub changed_below : {X : Type 0} → (X → X) → ℕ → List X → List X
changed_below f i xs = map f (take i xs) ++ drop i xs

pub changed_at : {X : Type 0} (f : X → X) (i : ℕ) (xs : List X) → slice_get (changed_below f i xs) i ≡ slice_get xs i
changed_at f zero xs = refl
changed_at f (suc i) [] = refl
changed_at f (suc i) (x ∷ xs) = changed_at f i xs

-- one element more is changed
pub changed_next : {X : Type 0} (f : X → X) (i n : ℕ) (xs : List X) (x : X) → n ≡ i + 1 → slice_get xs i ≡ Some x → set (changed_below f i xs) i (f x) ≡ changed_below f n xs
changed_next {X} f i n xs x e at = go i xs at ∙ ap (λ (k : ℕ). changed_below f k xs) (sym more)
  where
    more : n ≡ suc i
    more = omega (arith, e)

    go : (i : ℕ) (xs : List X) → slice_get xs i ≡ Some x → set (changed_below f i xs) i (f x) ≡ changed_below f (suc i) xs
    go i [] at = absurd (cc)
    go zero (y ∷ xs) at = let same : x ≡ y = cc in ap (λ (z : X). f z ∷ xs) same
    go (suc i) (y ∷ xs) at = ap (λ (l : List X). f y ∷ l) (go i xs at)

-- all are changed
pub changed_all : {X : Type 0} (f : X → X) (i : ℕ) (xs : List X) → length xs ≤ i → changed_below f i xs ≡ map f xs
changed_all f i xs l = ap (λ (ys : List _). map f ys ++ drop i xs) (take_all i xs l) ∙ ap (λ (ys : List _). map f xs ++ ys) (drop_all i xs l) ∙ append-nil (map f xs)

shift : {A C : Type 0} (f : A → C) (xs : List A) (x : A) (rest : List C) → map f (xs ++ x ∷ []) ++ rest ≡ map f xs ++ (f x ∷ rest)
shift f [] x rest = refl
shift f (y ∷ ys) x rest = ap (λ l. f y ∷ l) (shift f ys x rest)

-- what is read of each stays the same list
pub passed_on : {A B C : Type 0} (f : A → C) (h : B → C) (now was : List A) (x : A) (left rest : List B) (y : B) (all : List C)
    → now ≡ was ++ x ∷ [] → left ≡ y ∷ rest → f x ≡ h y → map f was ++ map h left ≡ all → map f now ++ map h rest ≡ all
passed_on f h now was x left rest y all put took same before =
    ap (λ l. map f l ++ map h rest) put
    ∙ shift f was x (map h rest)
    ∙ ap (λ n. map f was ++ (n ∷ map h rest)) same
    ∙ sym (ap (λ l. map f was ++ map h l) took)
    ∙ before

-- a list with what stood behind it, cut to its length
pub whole_front : {X : Type 0} (n : ℕ) (xs ys : List X) → n ≡ length xs → take n (xs ++ ys) ≡ xs
whole_front n xs ys e = take-append-le n xs ys (omega (arith, e)) ∙ take_all n xs (omega (arith, e))
