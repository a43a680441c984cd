-- Numbers are read word by word.
use Rattle.std.proofs.Common.{◌≡◌, ◌++◌, ℕ, List, [], ◌∷◌, Option, Some, None, refl, sym, ap, ◌∙◌, append_assoc, append-nil}
use Rattle.std.specs.Option.{option_map}
use Rattle.mp_saved.specs.Numbers.{number_in, numbers_said, with_first}

-- what is read, with what is still to be read
abbrev pub read_with : List ℕ → Option (List ℕ) → Option (List ℕ)
read_with ns rest = option_map (λ more. ns ++ more) rest

one_more : (ns : List ℕ) (n : ℕ) (rest : Option (List ℕ)) → read_with (ns ++ n ∷ []) rest ≡ read_with ns (with_first (Some n) rest)
one_more ns n None = refl
one_more ns n (Some more) = ap Some (append_assoc ns (n ∷ []) more)

-- a word more is read
pub read_more : (ns : List ℕ) (n : ℕ) (word : List ℕ) (words : List (List ℕ)) → number_in word ≡ Some n → read_with (ns ++ n ∷ []) (numbers_said words) ≡ read_with ns (numbers_said (word ∷ words))
read_more ns n word words e = one_more ns n (numbers_said words) ∙ ap (λ (o : Option ℕ). read_with ns (with_first o (numbers_said words))) (sym e)

-- a word that is no number ends it
pub read_none : (ns : List ℕ) (word : List ℕ) (words : List (List ℕ)) → number_in word ≡ None → read_with ns (numbers_said (word ∷ words)) ≡ None
read_none ns word words e = ap (λ (o : Option ℕ). read_with ns (with_first o (numbers_said words))) e

-- where no word is left all is read
pub read_all : (ns : List ℕ) → read_with ns (numbers_said []) ≡ Some ns
read_all ns = ap Some (append-nil ns)
