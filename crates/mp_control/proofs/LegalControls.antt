-- What fails no check is legal: the control records of a file are within the limits of the shape, and not too many.
use Rattle.std.proofs.Common.{◌≡◌, ◌+◌, ◌*◌, ◌/◌, ◌<◌, ◌≤◌, ℕ, true, None, Some, Option, List, [], ◌++◌, length, arith, length-append, subst, sym}
use Rattle.std.specs.Prelude.{All}
use Rattle.std.specs.List.{list_all}
use Rattle.std.proofs.lemmas.Bool.{leb-true}
use Rattle.std.proofs.lemmas.List.Elements.{All-append, All-cons, All-nil}
use Rattle.mp_control.specs.declared.kinds.LineKind.{LineKind}
use Rattle.mp_control.specs.declared.line.ControlLine.{ControlLine}
use Rattle.mp_control.specs.declared.line.ControlLine.TheVariants as line
use Rattle.mp_control.specs.Controls.{failures_but_count, failures_of, failures_of_kind, is_in_time, numbers_in, records_of_kind, records_on}
use Rattle.mp_control.specs.Kinds.{failures_within, kind_of, limits_of, line_of, records_on_line}
use Rattle.mp_control.specs.Read.{LineFits, StageFits}
use Rattle.mp_control.proofs.LineSteps.{in_time}
use Rattle.mp_control.proofs.Numbers.{fields_pass, stage_fits}
use Rattle.mp_control.proofs.Planned.{all_timely}
use Rattle.mp_names.specs.Limits.{most_controls}
use Rattle.mp_job.specs.Legal.{ControlFits, ControlsFit}
use Rattle.mp_lines.specs.Checks.{field_at}
use Rattle.mp_lines.proofs.Starts.{empty_parts, passes}
use Rattle.mp_names.specs.declared.controls.Control.{Control}
use Rattle.mp_names.specs.declared.controls.Shape.{Shape}

-- the records of a line that are in time are within the limits of the shape
line_fits : (shape : Shape) (line : ControlLine) → 0 < shape.workers → StageFits shape line → list_all is_in_time (records_on_line shape line) ≡ true → All (ControlFits shape) (records_on_line shape line)
line_fits shape (line.Record control) some fits timely = All-cons (ControlFits shape) control [] fits (All-nil (ControlFits shape))
line_fits shape (line.AllAtOnce time stage shift) some fits timely = all_timely shape stage shift (λ bin. time) some fits timely
line_fits shape (line.Fluid time gap stage shift) some fits timely = all_timely shape stage shift (λ bin. time + bin * gap) some fits timely
line_fits shape (line.Batched time gap size stage shift) some fits timely = all_timely shape stage shift (λ bin. time + bin / size * gap) some fits timely

-- with those of a line that fits, control records still fit
pub with_line : (shape : Shape) (line : ControlLine) (before new : List Control) → 0 < shape.workers → LineFits shape line → ControlsFit shape before
    → new ≡ before ++ records_on_line shape line → length new ≤ most_controls → ControlsFit shape new
with_line shape line before new some fits fit is few = record {
  few = few;
  each = subst (All (ControlFits shape)) (sym is)
      (All-append (ControlFits shape) before (records_on_line shape line) fit.each (line_fits shape line some fits.stage (in_time shape line fits.size fits.last)));
}

-- so are those of a line that fails no check
records_fit : (shape : Shape) (before : ℕ) (kind : Option LineKind) (fields : List (List ℕ)) → 0 < shape.workers → failures_of_kind shape before kind fields ≡ []
    → All (ControlFits shape) (records_of_kind shape kind fields)
records_fit shape before None fields some e = absurd (cc)
records_fit shape before (Some kind) fields some e =
    let parts = empty_parts (failures_within (limits_of shape kind) fields) _ (empty_parts (failures_but_count shape (Some kind) fields) _ e).0 in
    line_fits shape (line_of kind (numbers_in fields)) some (stage_fits shape kind fields (fields_pass (limits_of shape kind) fields parts.0)) (passes _ _ parts.1)

-- and with those before it not too many
records_are_few : (shape : Shape) (before : ℕ) (kind : Option LineKind) (fields : List (List ℕ)) → failures_of_kind shape before kind fields ≡ []
    → before + length (records_of_kind shape kind fields) ≤ most_controls
records_are_few shape before kind fields e = leb-true _ _ (passes _ _ (empty_parts (failures_but_count shape kind fields) _ e).1)

-- with those of a line that fails no check, control records still fit
pub one_more : (shape : Shape) → 0 < shape.workers → (before : List Control) (fields : List (List ℕ)) → ControlsFit shape before → failures_of shape (length before) fields ≡ []
    → ControlsFit shape (before ++ records_on shape fields)
one_more shape some before fields fit e =
    let kind = kind_of (field_at fields 0) in record {
      few = omega (arith, records_are_few shape (length before) kind fields e, length-append before (records_of_kind shape kind fields));
      each = All-append (ControlFits shape) before (records_of_kind shape kind fields) fit.each (records_fit shape (length before) kind fields some e);
    }
