-- The spans of places within which the states of each bin stand.
use Rattle.std.specs.Prelude.{◌≡◌, ◌<◌, ◌≤◌, ℕ, ◌+◌, Some, List, ◌++◌, drop, map, slice_get, slice_index_or, take}
use Rattle.mp_host_places.specs.declared.spans.Span.{Span}
use Rattle.mp_host_laws.specs.declared.held.Held.{Held}
use Rattle.mp_host_laws.specs.Moving.{last_first}

-- a span without places
abbrev pub nowhere : Span
nowhere = record { from = 0; to = 0 }

-- in a list of bins by place, the places of this bin are within the span
abbrev pub IsSpanOf : Span → ℕ → List ℕ → Type 0
IsSpanOf span b bins = (p : ℕ) → slice_get bins p ≡ Some b → (span.from ≤ p) × (p < span.to)

-- The places of each bin are within its span; a bin without one has no place
pub record AreSpans (spans : List Span) (bins : List ℕ) : Type 0 where
  pub each : (b : ℕ) → IsSpanOf (slice_index_or spans b nowhere) b bins

-- the list without what stood at a place, which the last item has
abbrev pub without : {X : Type 0} → ℕ → List X → List X
without at xs = take at xs ++ last_first (drop (at + 1) xs)

-- the bins of states, by place
abbrev pub bins_of : {Cell : Type 0} → List (Held Cell) → List ℕ
bins_of held = map (λ s. s.bin) held
