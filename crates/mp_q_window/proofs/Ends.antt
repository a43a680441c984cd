-- The ends of windows after a time.
use Rattle.std.proofs.Common.{ℕ, ◌+◌, ◌*◌, ◌/◌, ◌<◌, ◌≤◌, All, arith, subst, sym}
use Rattle.std.specs.List.{range_with_len}
use Rattle.std.proofs.lemmas.List.Elements.{All-map}
use Rattle.std.proofs.lemmas.List.FromFn.{get_or-range_with_len, length-range_with_len}
use Rattle.std.proofs.lemmas.Nat.{mul-le}
use Rattle.std.proofs.Math.Nat.{mul-mod_left}
use Rattle.mp_q_window.specs.Windows.{IsEndWithin, end_after, ends_after}

-- windows are no longer than 43,200
pub length_fits : (slide slides : ℕ) → slide ≤ 7200 → slides ≤ 6 → slide * slides ≤ 43200
length_fits slide slides short few = mul-le slide slides 7200 6 short few

-- the end of a window is a multiple of the slide, later than the time, by no more than the length of a window
pub end_within : (slide slides t i : ℕ) → 1 ≤ slide → i < slides → IsEndWithin slide (slide * slides) t ((t / slide + 1 + i) * slide)
end_within slide slides t i some below =
    let room : (i + 1) * slide ≤ slides * slide = mul-le (i + 1) slide slides slide (omega arith) (omega arith) in
    (mul-mod_left (t / slide + 1 + i) slide, omega arith, omega arith)

-- so is the first, within a slide
pub first_end_within : (slide t : ℕ) → 1 ≤ slide → IsEndWithin slide slide t (end_after slide t)
first_end_within slide t some = (mul-mod_left (t / slide + 1) slide, omega arith, omega arith)

-- and each of them
pub ends_within : (slide slides t : ℕ) → 1 ≤ slide → All (IsEndWithin slide (slide * slides) t) (ends_after slide slides t)
ends_within slide slides t some =
    let P = IsEndWithin slide (slide * slides) t in
    let end = λ (i : ℕ). (t / slide + 1 + i) * slide in
    All-map P end (range_with_len 0 slides)
    (λ i d low. let below : i < slides = omega (arith, length-range_with_len 0 slides) in
    subst (λ (n : ℕ). P (end n)) (sym (get_or-range_with_len 0 slides i d below)) (end_within slide slides t (0 + i) some (omega arith)))
