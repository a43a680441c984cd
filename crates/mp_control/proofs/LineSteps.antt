-- The checks of a line, one after the other.
use Rattle.std.proofs.Common.{◌≡◌, ◌+◌, ◌-◌, ◌*◌, ◌/◌, ◌<◌, ◌≤◌, ℕ, true, false, List, [], Some, refl, arith}
use Rattle.std.specs.List.{list_all, slice_get}
use Rattle.std.proofs.lemmas.Bool.{le-leb, lt-leb}
use Rattle.mp_control.specs.declared.kinds.LineKind.{LineKind}
use Rattle.mp_control.specs.declared.line.ControlLine.{ControlLine}
use Rattle.mp_control.specs.declared.line.ControlLine.TheVariants as line
use Rattle.mp_control.specs.declared.refused.ControlReason.TheVariants.{Range}
use Rattle.mp_control.specs.Controls.{failures_but_count, is_in_time, numbers_in}
use Rattle.mp_control.specs.Kinds.{failures_within, last_time_of, limits_of, line_of, records_on_line}
use Rattle.mp_control.specs.Read.{HasSize}
use Rattle.mp_control.proofs.Planned as planned
use Rattle.mp_names.specs.Limits.{greatest_time}
use Rattle.mp_names.specs.declared.controls.Shape.{Shape}
use Rattle.mp_plans.proofs.Times.{batches_rise, more_gaps}

below : (bin bins : ℕ) → bin < bins → bin ≤ bins - 1
below bin bins low = omega (arith, low)

-- the records of a line are in time where the last one is
pub in_time : (shape : Shape) (line : ControlLine) → HasSize line → last_time_of shape.bins line ≤ greatest_time → list_all is_in_time (records_on_line shape line) ≡ true
in_time shape (line.Record control) size last = rw (le-leb _ _ last) refl
in_time shape (line.AllAtOnce time stage shift) size last = planned.in_time shape stage shift (λ bin. time) (λ bin low. omega arith) last
in_time shape (line.Fluid time gap stage shift) size last = planned.in_time shape stage shift (λ bin. time + bin * gap) (λ bin low. more_gaps time gap bin (shape.bins - 1) (below bin shape.bins low)) last
in_time shape (line.Batched time gap size stage shift) some last =
    planned.in_time shape stage shift (λ bin. time + bin / size * gap) (λ bin low. more_gaps time gap (bin / size) ((shape.bins - 1) / size) (batches_rise size bin (shape.bins - 1) some (below bin shape.bins low))) last

-- and not all are where the last one isn't
pub too_late : (shape : Shape) (line : ControlLine) → 0 < shape.bins → greatest_time < last_time_of shape.bins line → list_all is_in_time (records_on_line shape line) ≡ false
too_late shape (line.Record control) some late = rw (lt-leb _ _ late) refl
too_late shape (line.AllAtOnce time stage shift) some late = planned.too_late shape stage shift (λ bin. time) some late
too_late shape (line.Fluid time gap stage shift) some late = planned.too_late shape stage shift (λ bin. time + bin * gap) some late
too_late shape (line.Batched time gap size stage shift) some late = planned.too_late shape stage shift (λ bin. time + bin / size * gap) some late

-- a line whose fields pass and whose last record is in time fails none of these checks
pub passes_all : (shape : Shape) (kind : LineKind) (fields : List (List ℕ)) (line : ControlLine) → failures_within (limits_of shape kind) fields ≡ [] → line ≡ line_of kind (numbers_in fields)
    → HasSize line → last_time_of shape.bins line ≤ greatest_time → failures_but_count shape (Some kind) fields ≡ []
passes_all shape kind fields line pass is size last = rw (pass, ← is, in_time shape line size last) refl

-- one whose fields pass and whose last record is too late fails that check
pub fails_range : (shape : Shape) (kind : LineKind) (fields : List (List ℕ)) (line : ControlLine) → failures_within (limits_of shape kind) fields ≡ [] → line ≡ line_of kind (numbers_in fields)
    → 0 < shape.bins → greatest_time < last_time_of shape.bins line → slice_get (failures_but_count shape (Some kind) fields) 0 ≡ Some Range
fails_range shape kind fields line pass is some late = rw (pass, ← is, too_late shape line some late) refl
