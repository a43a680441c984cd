-- The control records that drain a worker.
use Rattle.std.specs.Prelude.{ℕ, suc, ◌+◌, ◌-◌, ◌*◌, ◌%◌, ◌==◌, List, filter, length, map, slice_index}
use Rattle.std.specs.List.{range_with_len}
use Rattle.mp_bins.specs.Notes.{Layout, first_owner}
use Rattle.mp_names.specs.Controls.{owner_below}
use Rattle.mp_names.specs.declared.controls.Control.{Control}
use Rattle.mp_names.specs.declared.controls.Shape.{Shape}

-- who owns each bin of a stage at a time, by the first owners and a list of control records
abbrev pub owner_in : Layout → List Control → ℕ → ℕ → ℕ → ℕ
owner_in layout controls stage time bin = owner_below controls (first_owner layout stage bin) stage bin (suc time)

-- of so many bins those that a worker owns, upward, by the owner of each
abbrev pub bins_of : (ℕ → ℕ) → ℕ → ℕ → List ℕ
bins_of owner_of bins worker = filter (λ bin. owner_of bin == worker) (range_with_len 0 bins)

-- the worker of a turn: the others take turns, beginning behind this one
abbrev pub worker_of_turn : Shape → ℕ → ℕ → ℕ
worker_of_turn shape worker turn = (worker + 1 + turn % (shape.workers - 1)) % shape.workers

-- for each of these bins a control record, each a gap later than the one before it, to the other workers by turns
abbrev pub spread : Shape → ℕ → ℕ → ℕ → ℕ → List ℕ → List Control
spread shape time gap stage worker bins =
    map (λ turn. record { time = time + turn * gap; stage = stage; bin = slice_index bins turn; worker = worker_of_turn shape worker turn }) (range_with_len 0 (length bins))

-- all bins of a stage that the worker owns, by the owner of each, go to the others
abbrev pub drained : (ℕ → ℕ) → Shape → ℕ → ℕ → ℕ → ℕ → List Control
drained owner_of shape time gap stage worker = spread shape time gap stage worker (bins_of owner_of shape.bins worker)

-- the time of the last of so many bins
abbrev pub last_turn : ℕ → ℕ → ℕ → ℕ
last_turn time gap found = time + (found - 1) * gap
