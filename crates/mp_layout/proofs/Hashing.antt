-- A range of hashes is told by the leading bits.
use Rattle.std.proofs.Common.{◌≡◌, ℕ, ◌*◌, ◌/◌, ◌^◌, ◌-◌, ◌+◌, ◌≤◌, sym, ap, ◌∙◌, arith}
use Rattle.std.proofs.Math.Nat.{div-div-eq-div-mul, mul-div_cancel}
use Rattle.std.proofs.lemmas.Nat.{pow-add, pow_pos}
use Rattle.mp_layout.specs.Bins.{bin_of_key, hash_of}

-- 2^64 is the number of bins times the size of their ranges
split : (k : ℕ) → k ≤ 64 → 2 ^ k * 2 ^ (64 - k) ≡ 2 ^ 64
split k h = let e : k + (64 - k) ≡ 64 = omega arith in sym (pow-add 2 k (64 - k)) ∙ ap (λ n. 2 ^ n) e

pub leading : (hash k : ℕ) → k ≤ 64 → (hash * 2 ^ k) / 2 ^ 64 ≡ hash / 2 ^ (64 - k)
leading hash k h =
    ap (λ n. (hash * 2 ^ k) / n) (sym (split k h))
    ∙ sym (div-div-eq-div-mul (hash * 2 ^ k) (2 ^ k) (2 ^ (64 - k)))
    ∙ ap (λ n. n / 2 ^ (64 - k)) (mul-div_cancel hash (pow_pos k))

pub bins_are_leading : (key k : ℕ) → k ≤ 64 → bin_of_key key (2 ^ k) ≡ hash_of key / 2 ^ (64 - k)
bins_are_leading key k h = leading (hash_of key) k h
