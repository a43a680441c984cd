-- The control records of plans.
use Rattle.std.specs.Prelude.{ℕ, ◌+◌, ◌-◌, ◌*◌, ◌/◌, ◌%◌, ◌<◌, ◌≤◌, List, map}
use Rattle.std.specs.List.{range_with_len}
use Rattle.mp_names.specs.declared.controls.Control.{Control}
use Rattle.mp_names.specs.declared.controls.Shape.{Shape}
use Rattle.mp_names.specs.Limits.{greatest_time}
use Rattle.mp_plans.specs.declared.pace.Pace.{Pace}
use Rattle.mp_plans.specs.declared.pace.Pace.TheVariants.{AtOnce, Fluid, Batched}

-- the worker that a plan gives a bin to: the bin plus the shift, modulo the number of workers
abbrev pub worker_by : Shape → ℕ → ℕ → ℕ
worker_by shape shift bin = (bin + shift) % shape.workers

-- for each bin of a stage, upward, a control record at the time of that bin
abbrev pub planned : Shape → ℕ → ℕ → (ℕ → ℕ) → List Control
planned shape stage shift time_of =
    map (λ bin. record { time = time_of bin; stage = stage; bin = bin; worker = worker_by shape shift bin }) (range_with_len 0 shape.bins)

-- all bins at one time
abbrev pub all_at_once_records : Shape → ℕ → ℕ → ℕ → List Control
all_at_once_records shape time stage shift = planned shape stage shift (λ bin. time)

-- each bin a gap later than the one before it
abbrev pub fluid_records : Shape → ℕ → ℕ → ℕ → ℕ → List Control
fluid_records shape time gap stage shift = planned shape stage shift (λ bin. time + bin * gap)

-- so many bins at one time, and each batch a gap later than the one before it
abbrev pub batched_records : Shape → ℕ → ℕ → ℕ → ℕ → ℕ → List Control
batched_records shape time gap size stage shift = planned shape stage shift (λ bin. time + bin / size * gap)

-- the time of a bin, where the first one goes at this time
abbrev pub time_by : Pace → ℕ → ℕ → ℕ
time_by AtOnce time bin = time
time_by (Fluid gap) time bin = time + bin * gap
time_by (Batched gap size) time bin = time + bin / size * gap

-- the records of a pace
abbrev pub records_by : Shape → Pace → ℕ → ℕ → ℕ → List Control
records_by shape pace time stage shift = planned shape stage shift (time_by pace time)

-- a batch has a bin at least
abbrev pub FitsPace : Pace → Type 0
FitsPace (Batched gap size) = 0 < size
FitsPace _ = Unit {0}

-- the last bin doesn't go too late
abbrev pub HasLastTime : Shape → Pace → ℕ → Type 0
HasLastTime shape pace time = time_by pace time (shape.bins - 1) ≤ greatest_time
