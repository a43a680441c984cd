-- What is kept of a line that fails no check.
use Rattle.std.specs.Prelude.{◌≡◌, ℕ, ◌<◌, ◌≤◌, ◌^◌, List, [], Some, Result, Ok, Err, length, slice_index}
use Rattle.std.specs.List.{slice_get}
use Rattle.mp_control.specs.declared.kinds.LineKind.{LineKind}
use Rattle.mp_control.specs.declared.kinds.LineKind.TheVariants.{Record, AllAtOnce, Fluid, Batched}
use Rattle.mp_control.specs.declared.line.ControlLine.{ControlLine}
use Rattle.mp_control.specs.declared.line.ControlLine.TheVariants as line
use Rattle.mp_control.specs.declared.refused.ControlReason.{ControlReason}
use Rattle.mp_control.specs.declared.refused.ControlReason.TheVariants.{Count}
use Rattle.mp_control.specs.Controls.{numbers_in}
use Rattle.mp_control.specs.Kinds.{kind_of, last_time_of, limits_of, line_of}
use Rattle.mp_lines.specs.Checks.{FieldsPass, field_at}
use Rattle.mp_lines.specs.Limits.{failures_of_number}
use Rattle.mp_lines.specs.Refusals.{IfBad}
use Rattle.mp_lines.specs.declared.refused.LineRefused.{LineRefused}
use Rattle.mp_lines.specs.declared.refused.LineRefused.TheVariants.{Bad, NoMemory}
use Rattle.mp_names.specs.Limits.{greatest_time, most_controls}
use Rattle.mp_names.specs.declared.controls.Shape.{Shape}
use Rattle.mp_job.specs.Legal.{ControlFits}
use Rattle.mp_plans.specs.declared.refused.PlanRefused.{PlanRefused}
use Rattle.mp_plans.specs.declared.refused.PlanRefused.TheVariants as plan

module _ {T : Type 0} where
  -- an answer to a line: where it fails no check a value for which P holds, else the first check that it fails; want of memory says nothing
  abbrev pub AnswersLine : Result T (LineRefused ControlReason) → List ControlReason → (T → Type 0) → Type 0
  AnswersLine (Ok x) failures P = (failures ≡ []) × P x
  AnswersLine (Err refused) failures P = IfBad refused (λ why. slice_get failures 0 ≡ Some why)

-- the fields of a line of this kind pass
abbrev pub IsPassed : Shape → LineKind → List (List ℕ) → Type 0
IsPassed shape kind fields = FieldsPass failures_of_number (limits_of shape kind) fields

-- the number at this place fits 32 bits
abbrev pub FitsWord : List ℕ → ℕ → Type 0
FitsWord numbers k = slice_index numbers k < 2 ^ 32

-- the numbers that are no times fit 32 bits
abbrev pub IsSmall : LineKind → List ℕ → Type 0
IsSmall Record ns = FitsWord ns 1 × FitsWord ns 2 × FitsWord ns 3
IsSmall AllAtOnce ns = FitsWord ns 1 × FitsWord ns 2
IsSmall Fluid ns = FitsWord ns 2 × FitsWord ns 3
IsSmall Batched ns = FitsWord ns 2 × FitsWord ns 3 × FitsWord ns 4

-- a batch has a bin at least
abbrev pub HasSize : ControlLine → Type 0
HasSize (line.Batched time gap size stage shift) = 0 < size
HasSize _ = Unit {0}

-- the stage of a plan is one of the shape; a record is within the shape's limits
abbrev pub StageFits : Shape → ControlLine → Type 0
StageFits shape (line.Record control) = ControlFits shape control
StageFits shape (line.AllAtOnce time stage shift) = stage < shape.stages
StageFits shape (line.Fluid time gap stage shift) = stage < shape.stages
StageFits shape (line.Batched time gap size stage shift) = stage < shape.stages

-- What a line says is within the limits of the shape, and none of its records is too late
pub record LineFits (shape : Shape) (line : ControlLine) : Type 0 where
  pub size : HasSize line
  pub stage : StageFits shape line
  pub last : last_time_of shape.bins line ≤ greatest_time

-- It is what the fields say, and it fits
pub record IsReadLine (shape : Shape) (fields : List (List ℕ)) (line : ControlLine) : Type 0 where
  pub kind : LineKind
  pub says : kind_of (field_at fields 0) ≡ Some kind
  pub is : line ≡ line_of kind (numbers_in fields)
  pub fits : LineFits shape line

-- the reason is that there would be so many control records, which is too many
abbrev pub IsCount : ℕ → ControlReason → Type 0
IsCount length why = (why ≡ Count) × (most_controls < length)

-- why a line is refused whose plan is
abbrev pub refusal_of : PlanRefused → LineRefused ControlReason
refusal_of (plan.TooMany count) = Bad Count
refusal_of plan.NoMemory = NoMemory
