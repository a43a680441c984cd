-- The lines that drain a worker.
use Rattle.std.specs.Prelude.{◌≡◌, ◌<◌, ◌≤◌, ◌+◌, ◌++◌, ◌&&◌, ℕ, List, [], ◌∷◌, Option, Some, true, Bool, length, nat_le, nat_lt, slice_index}
use Rattle.std.specs.List.{list_all}
use Rattle.mp_bins.specs.Laws.{AreNotesOf}
use Rattle.mp_bins.specs.Notes.{Layout, is_noted}
use Rattle.mp_control.specs.declared.drains.DrainLine.{DrainLine}
use Rattle.mp_control.specs.declared.list_owners.ListOwners.{ListOwners}
use Rattle.mp_control.specs.declared.refused.ControlReason.{ControlReason}
use Rattle.mp_control.specs.declared.refused.ControlReason.TheVariants.{Count, Range}
use Rattle.mp_control.specs.Controls.{is_in_time, numbers_in}
use Rattle.mp_control.specs.Kinds.{failures_within}
use Rattle.mp_lines.specs.Checks.{check}
use Rattle.mp_lines.specs.declared.limits.NumberLimit.{NumberLimit}
use Rattle.mp_lines.specs.declared.limits.NumberLimit.TheVariants.{UpTo, Below}
use Rattle.mp_names.specs.Limits.{greatest_time, most_controls}
use Rattle.mp_names.specs.declared.controls.Control.{Control}
use Rattle.mp_names.specs.declared.controls.Shape.{Shape}
use Rattle.mp_plans.specs.Drains.{drained, owner_in}

-- the limits of the fields after the kind: time, gap, stage, worker
abbrev pub limits_of_drain : Shape → List NumberLimit
limits_of_drain shape = UpTo greatest_time ∷ UpTo greatest_time ∷ Below shape.stages ∷ Below shape.workers ∷ []

-- what these numbers say
abbrev pub drain_of : List ℕ → DrainLine
drain_of ns = record { time = slice_index ns 0; gap = slice_index ns 1; stage = slice_index ns 2; worker = slice_index ns 3 }

-- the control records that it says behind these first owners and control records: all bins of the stage that the worker owns by them at that time
-- go to the others
abbrev pub records_by_drain : Layout → List Control → DrainLine → List Control
records_by_drain layout controls drain =
    drained (owner_in layout controls drain.stage drain.time) layout.shape drain.time drain.gap drain.stage drain.worker

-- the checks that these records of a drain fail behind so many control records, in order: there is another worker and none of them is too late, and
-- there are not too many
abbrev pub failures_of_drained : Shape → ℕ → List Control → List ControlReason
failures_of_drained shape before records =
    check (nat_le 2 shape.workers && list_all is_in_time records) Range
    ++ check (nat_le (before + length records) most_controls) Count

-- the checks that a line that drains a worker fails, in order: its fields, and those of its records
abbrev pub failures_of_drain : Layout → List Control → List (List ℕ) → List ControlReason
failures_of_drain layout controls fields =
    failures_within (limits_of_drain layout.shape) fields
    ++ failures_of_drained layout.shape (length controls) (records_by_drain layout controls (drain_of (numbers_in fields)))

-- it is within the limits of the shape
pub record DrainFits (shape : Shape) (drain : DrainLine) : Type 0 where
  pub in_time : drain.time ≤ greatest_time
  pub stage : drain.stage < shape.stages

-- the first so many of these control records are noted, and no others
pub record AreListOwners (layout : Layout) (controls : List Control) (kept : ListOwners) : Type 0 where
  pub of_layout : kept.owners.layout ≡ layout
  pub notes : AreNotesOf controls kept.owners
  pub noted : (i : ℕ) → is_noted kept.owners.noted i ≡ nat_lt i kept.count
  pub listed : kept.count ≤ length controls

-- owners are kept from the first drain on, behind which no first owner may stand
abbrev pub MayBeKept : Layout → List Control → Bool → Option ListOwners → Type 0
MayBeKept layout controls late kept = (owners : ListOwners) → kept ≡ Some owners → (late ≡ true) × AreListOwners layout controls owners
