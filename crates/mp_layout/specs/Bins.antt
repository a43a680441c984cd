-- The bin of a key.
use Rattle.std.specs.Prelude.{◌≡◌, ℕ, ◌*◌, ◌/◌, ◌%◌, ◌^◌, ◌≤◌, ◌-◌}

-- a power of two from 1 to 4096
abbrev pub IsBinCount : ℕ → Type 0
IsBinCount bins = (k : ℕ) × (k ≤ 12) × (bins ≡ 2 ^ k)

-- the key times 2^64 divided by the golden ratio, of 64 bits
abbrev pub hash_of : ℕ → ℕ
hash_of key = (key * 0x9E37_79B9_7F4A_7C15) % 2 ^ 64

-- the hashes are cut into so many ranges of one size; of a power of two of them the range of a hash is told by its leading bits
abbrev pub bin_of_key : ℕ → ℕ → ℕ
bin_of_key key bins = (hash_of key * bins) / 2 ^ 64

-- with 2^k bins the bin is the number that the leading k of the hash's 64 bits say
abbrev pub BinsAreLeadingBits : Type 0
BinsAreLeadingBits = (key k : ℕ) → k ≤ 64 → bin_of_key key (2 ^ k) ≡ hash_of key / 2 ^ (64 - k)
