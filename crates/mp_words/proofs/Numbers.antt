-- Numbers that texts say.
use Rattle.std.proofs.Common.{◌≡◌, ◌≤◌, ℕ, arith, List, Ok}
use Rattle.mp_text.specs.Numbers.{number_of}

-- a number is at most what is allowed
pub within : (text : List ℕ) (most n : ℕ) → number_of text most ≡ Ok n → n ≤ most
unfolding number_of
within text most n is = grind (arith, is)
