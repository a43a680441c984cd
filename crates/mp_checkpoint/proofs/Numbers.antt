-- Numbers that are read as they are written.
use Rattle.std.proofs.Common.{◌≡◌, ◌≢◌, ◌<◌, ◌≤◌, ◌^◌, ◌==◌, ℕ, List, false, Result, Ok, Err, sym, ap, ◌∙◌, arith}
use Rattle.std.specs.Prelude.{All}
use Rattle.std.specs.Fmt.{decimal}
use Rattle.std.proofs.lemmas.Bool.{both_ways, eq-eqb}
use Rattle.std.proofs.lemmas.List.Elements.{All-weaker}
use Rattle.mp_model.proofs.PlainNumbers.{plain_number}
use Rattle.mp_text.proofs.NumberLemmas.{number_of-decimal}
use Rattle.mp_text.specs.Numbers.{number_of}
use Rattle.mp_text.specs.declared.numbers.BadNumber.{BadNumber}

-- no bar stands in a number
pub no_bar : (n : ℕ) → n < 2 ^ 64 → All (λ b. b ≢ 124) (decimal n)
no_bar n low = All-weaker (λ (b : ℕ). ((b == 124) ≡ false) × ((b == 10) ≡ false)) (λ (b : ℕ). b ≢ 124) (λ b h e. both_ways (b == 124) h.0 (eq-eqb b 124 e)) (decimal n) (plain_number n low)

pub read_again : (n m most : ℕ) (word : List ℕ) → number_of word most ≡ Ok m → word ≡ decimal n → n < 2 ^ 64 → n ≤ most → m ≡ n
read_again n m most word read is low within =
    let a : ◌≡◌ {A = Result ℕ BadNumber} (Ok m) (Ok n) = sym read ∙ ap (λ (w : List ℕ). number_of w most) is ∙ number_of-decimal n most low within in
    cc

pub not_refused : (n most : ℕ) (why : BadNumber) (word : List ℕ) → number_of word most ≡ Err why → word ≡ decimal n → n < 2 ^ 64 → n ≤ most → ⊥
not_refused n most why word read is low within =
    let a : ◌≡◌ {A = Result ℕ BadNumber} (Err why) (Ok n) = sym read ∙ ap (λ (w : List ℕ). number_of w most) is ∙ number_of-decimal n most low within in
    cc

-- a number that is read is within its limit
pub within : (text : List ℕ) (most n : ℕ) → number_of text most ≡ Ok n → n ≤ most
unfolding number_of
within text most n is = grind (arith, is)
