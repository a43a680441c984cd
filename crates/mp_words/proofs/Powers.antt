-- A number with one bit set is a power of two.
use Rattle.std.proofs.Common.{◌≡◌, ◌/◌, ◌%◌, ◌<◌, ◌^◌, ℕ, zero, suc, arith, refl}
use Rattle.std.specs.Int.RustNames.{count_ones}
use Rattle.std.proofs.lemmas.Nat.{ones-le, zero_from_ones}
use lib.Count.{ones_step}

-- its exponent is below a count of digits that it fits in: either the last digit is the one that is set, or half of the number has one bit set
pub power : (digits n : ℕ) → n < 2 ^ digits → count_ones n ≡ 1 → (k : ℕ) × (k < digits) × (n ≡ 2 ^ k)
power zero n low is = let few = ones-le 0 n low in absurd (omega arith)
power (suc digits) n low is = by_last (n % 2) refl (power digits (n / 2) (omega arith))
  where
    by_last : (last : ℕ) → n % 2 ≡ last → (count_ones (n / 2) ≡ 1 → (k : ℕ) × (k < digits) × (n / 2 ≡ 2 ^ k)) → (k : ℕ) × (k < suc digits) × (n ≡ 2 ^ k)
    by_last zero even halved =
        let step = ones_step n in
        let half = halved (omega arith) in
        (suc half.0, omega (arith, half.1), omega (arith, half.2))
    by_last (suc last) odd halved =
        let step = ones_step n in
        let rest = zero_from_ones (n / 2) (omega arith) in
        (0, omega arith, omega arith)
