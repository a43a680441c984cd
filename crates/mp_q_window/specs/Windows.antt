-- The times at which windows end.
use Rattle.std.specs.Prelude.{ℕ, ◌≡◌, ◌+◌, ◌*◌, ◌/◌, ◌%◌, ◌<◌, ◌≤◌, List, map}
use Rattle.std.specs.List.{range_with_len}

-- the first multiple of a number above a time
abbrev pub end_after : ℕ → ℕ → ℕ
end_after slide t = (t / slide + 1) * slide

-- the first multiples of a number above a time, so many of them
abbrev pub ends_after : ℕ → ℕ → ℕ → List ℕ
ends_after slide slides t = map (λ i. (t / slide + 1 + i) * slide) (range_with_len 0 slides)

-- a multiple of a number that is above a time, and at most this much above
abbrev pub IsEndWithin : ℕ → ℕ → ℕ → ℕ → Type 0
IsEndWithin slide span t end = (end % slide ≡ 0) × (t < end) × (end ≤ t + span)
