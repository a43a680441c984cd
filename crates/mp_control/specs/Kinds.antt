-- The kinds of lines: the limits of their fields, and the control records that they say.
use Rattle.std.specs.Prelude.{ℕ, ◌+◌, ◌-◌, ◌*◌, ◌/◌, ◌<◌, ◌==◌, ◌^◌, ◌++◌, Option, Some, None, List, [], ◌∷◌, codes, drop, if◌then◌else◌, length, map, slice_index}
use Rattle.std.specs.Str.{bytes_eq}
use Rattle.mp_control.specs.declared.kinds.LineKind.{LineKind}
use Rattle.mp_control.specs.declared.kinds.LineKind.TheVariants.{Record, AllAtOnce, Fluid, Batched}
use Rattle.mp_control.specs.declared.line.ControlLine.{ControlLine}
use Rattle.mp_control.specs.declared.line.ControlLine.TheVariants as line
use Rattle.mp_control.specs.declared.refused.ControlReason.{ControlReason}
use Rattle.mp_control.specs.declared.refused.ControlReason.TheVariants.{Fields}
use Rattle.mp_control.specs.Reasons.{reason_of}
use Rattle.mp_lines.specs.declared.limits.NumberLimit.{NumberLimit}
use Rattle.mp_lines.specs.declared.limits.NumberLimit.TheVariants.{UpTo, Below, Between}
use Rattle.mp_lines.specs.Checks.{check, failures_of_fields}
use Rattle.mp_lines.specs.Limits.{failures_of_number}
use Rattle.mp_names.specs.Limits.{greatest_time}
use Rattle.mp_names.specs.declared.controls.Control.{Control}
use Rattle.mp_names.specs.declared.controls.Shape.{Shape}
use Rattle.mp_plans.specs.Plans.{all_at_once_records, batched_records, fluid_records}

-- the numbers of a shape fit 32 bits, as they do in the code
pub record FitsWords (shape : Shape) : Type 0 where
  pub workers : shape.workers < 2 ^ 32
  pub bins : shape.bins < 2 ^ 32
  pub stages : shape.stages < 2 ^ 32

-- the kind that a line's first field says
abbrev pub kind_of : List ℕ → Option LineKind
kind_of field =
    if bytes_eq field (codes "M") then Some Record
    else if bytes_eq field (codes "all") then Some AllAtOnce
    else if bytes_eq field (codes "fluid") then Some Fluid
    else if bytes_eq field (codes "batch") then Some Batched
    else None

-- the limits of the fields after the kind, from left to right
abbrev pub limits_of : Shape → LineKind → List NumberLimit
-- time, stage, bin, worker
limits_of shape Record = UpTo greatest_time ∷ Below shape.stages ∷ Below shape.bins ∷ Below shape.workers ∷ []
-- time, stage, shift
limits_of shape AllAtOnce = UpTo greatest_time ∷ Below shape.stages ∷ UpTo 255 ∷ []
-- time, gap, stage, shift
limits_of shape Fluid = UpTo greatest_time ∷ UpTo greatest_time ∷ Below shape.stages ∷ UpTo 255 ∷ []
-- time, gap, size, stage, shift
limits_of shape Batched = UpTo greatest_time ∷ UpTo greatest_time ∷ Between 1 4096 ∷ Below shape.stages ∷ UpTo 255 ∷ []

-- the checks that fields after a kind fail: there is one for each limit, and each is a number within its limit
abbrev pub failures_within : List NumberLimit → List (List ℕ) → List ControlReason
failures_within limits fields =
    check (length fields == length limits + 1) Fields
    ++ map reason_of (failures_of_fields failures_of_number limits (drop 1 fields))

-- what a line of this kind says with these numbers after it
abbrev pub line_of : LineKind → List ℕ → ControlLine
line_of Record ns = line.Record (record { time = slice_index ns 0; stage = slice_index ns 1; bin = slice_index ns 2; worker = slice_index ns 3 })
line_of AllAtOnce ns = line.AllAtOnce (slice_index ns 0) (slice_index ns 1) (slice_index ns 2)
line_of Fluid ns = line.Fluid (slice_index ns 0) (slice_index ns 1) (slice_index ns 2) (slice_index ns 3)
line_of Batched ns = line.Batched (slice_index ns 0) (slice_index ns 1) (slice_index ns 2) (slice_index ns 3) (slice_index ns 4)

-- the control records that a line says
abbrev pub records_on_line : Shape → ControlLine → List Control
records_on_line shape (line.Record control) = control ∷ []
records_on_line shape (line.AllAtOnce time stage shift) = all_at_once_records shape time stage shift
records_on_line shape (line.Fluid time gap stage shift) = fluid_records shape time gap stage shift
records_on_line shape (line.Batched time gap size stage shift) = batched_records shape time gap size stage shift

-- the time of the last of them, where a stage has so many bins
abbrev pub last_time_of : ℕ → ControlLine → ℕ
last_time_of bins (line.Record control) = control.time
last_time_of bins (line.AllAtOnce time stage shift) = time
last_time_of bins (line.Fluid time gap stage shift) = time + (bins - 1) * gap
last_time_of bins (line.Batched time gap size stage shift) = time + (bins - 1) / size * gap
