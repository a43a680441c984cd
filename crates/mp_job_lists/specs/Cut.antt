-- Lists that stand one behind the other.
use Rattle.std.specs.Prelude.{◌≡◌, ℕ, zero, suc, ◌-◌, ◌≤◌, List, [], ◌∷◌, drop, slice_index_or, take}

-- what stands from a place on, cut where each list ends
abbrev pub cut : ℕ → List ℕ → List ℕ → List (List ℕ)
cut from times [] = []
cut from times (end ∷ ends) = take (end - from) (drop from times) ∷ cut end times ends

-- the ends never fall, from a place on, and the last is this one
abbrev pub EndAt : ℕ → List ℕ → ℕ → Type 0
EndAt from [] last = from ≡ last
EndAt from (end ∷ ends) last = (from ≤ end) × (end ≤ last) × EndAt end ends last

-- where the list at a place begins
abbrev pub start_of : ℕ → List ℕ → ℕ → ℕ
start_of from ends zero = from
start_of from ends (suc i) = slice_index_or ends i 0
