-- The cells and wakes of a checkpoint by the bins of their keys.
use Rattle.std.specs.Prelude.{◌≡◌, ◌==◌, ◌&&◌, ℕ, suc, Bool, List, Option, slice_get, [], ◌∷◌, All, AllPairs, IsPermutation, map}
use Rattle.std.specs.Option.{option_map}
use Rattle.std.specs.List.Sorted.{IsSortedByKey}
use Rattle.std.specs.Ordering.{nat_cmp, ordering_then}
use Rattle.std.specs.declared.cmp.Ordering.{Ordering}
use Rattle.mp_layout.specs.Bins.{IsBinCount, bin_of_key}
use Rattle.mp_model.specs.Facts.{SavedWake}
use Rattle.mp_model.specs.QueryLaws.{WakeIsBefore}
use Rattle.mp_opening.specs.declared.checkpoint.KeyCell.{KeyCell}
use Rattle.mp_opening.specs.Checkpoints.{CheckpointOf, KeyIsBefore}
use Rattle.mp_opening.specs.declared.places.CellPlace.{CellPlace}

-- by the first number, and then by the second
abbrev pub pair_cmp : ℕ × ℕ → ℕ × ℕ → Ordering
pair_cmp p q = ordering_then (nat_cmp p.0 q.0) (nat_cmp p.1 q.1)

-- and then by the third
abbrev pub triple_cmp : ℕ × ℕ × ℕ → ℕ × ℕ × ℕ → Ordering
triple_cmp p q = ordering_then (ordering_then (nat_cmp p.0 q.0) (nat_cmp p.1 q.1)) (nat_cmp p.2 q.2)

-- what decides which of two places comes first: the stage and the bin
abbrev pub rank_of_place : CellPlace → ℕ × ℕ
rank_of_place p = (p.stage, p.bin)

-- the place is one of the bin of the stage
abbrev pub is_of_bin : ℕ → ℕ → CellPlace → Bool
is_of_bin j b p = p.stage == j && p.bin == b

-- a wake as a time and a key
abbrev pub time_and_key : SavedWake → ℕ × ℕ
time_and_key w = (w.time, w.key)

-- what decides which of two wakes comes first: the bin of the key, the time and the key
abbrev pub rank_of_wake : ℕ → ℕ × ℕ → ℕ × ℕ × ℕ
rank_of_wake bins w = (bin_of_key w.1 bins, w.0, w.1)

-- the key of the wake is in the bin
abbrev pub wakes_in : ℕ → ℕ → ℕ × ℕ → Bool
wakes_in bins b w = bin_of_key w.1 bins == b

module _ {Cell : Type 0} where
  -- the place of a cell that stands at n
  abbrev pub place_at : ℕ → ℕ → KeyCell Cell → CellPlace
  place_at bins n c = record { stage = c.stage; bin = bin_of_key c.key bins; place = n }

  -- the places of cells, of which the first stands at n
  abbrev pub places_from : ℕ → ℕ → List (KeyCell Cell) → List CellPlace
  places_from bins n [] = []
  places_from bins n (c ∷ cs) = place_at bins n c ∷ places_from bins (suc n) cs

  -- the cell at a place, beside its key
  abbrev pub cell_at : List (KeyCell Cell) → CellPlace → Option (ℕ × Cell)
  cell_at cells p = option_map (λ s. (s.key, s.cell)) (slice_get cells p.place)

  -- the places of the cells of a checkpoint, by bin, and its wakes, by bin; the checkpoint is in order, and its wakes are of the first stage
  pub record AreByBin (bins : ℕ) (c : CheckpointOf Cell) (places : List CellPlace) (wakes : List (ℕ × ℕ)) : Type 0 where
    pub count : IsBinCount bins
    pub all_cells : IsPermutation (places_from bins 0 c.cells) places
    pub cells_by_bin : IsSortedByKey rank_of_place pair_cmp places
    pub all_wakes : IsPermutation (map time_and_key c.wakes) wakes
    pub wakes_by_bin : IsSortedByKey (rank_of_wake bins) triple_cmp wakes
    pub cells_ascend : AllPairs KeyIsBefore c.cells
    pub wakes_ascend : AllPairs WakeIsBefore c.wakes
    pub first : All (λ w. w.stage ≡ 0) c.wakes
