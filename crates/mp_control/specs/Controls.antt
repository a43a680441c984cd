-- The control records of a configuration.
use Rattle.std.specs.Prelude.{ℕ, ◌+◌, ◌++◌, Bool, Option, Some, None, Result, List, [], ◌∷◌, drop, length, map, nat_le}
use Rattle.std.specs.List.{list_all}
use Rattle.mp_control.specs.declared.kinds.LineKind.{LineKind}
use Rattle.mp_control.specs.declared.refused.ControlReason.{ControlReason}
use Rattle.mp_control.specs.declared.refused.ControlReason.TheVariants.{Kind, Range, Count}
use Rattle.mp_control.specs.Kinds.{failures_within, kind_of, limits_of, line_of, records_on_line}
use Rattle.mp_names.specs.Limits.{greatest_time, most_controls}
use Rattle.mp_lines.specs.Checks.{check, field_at}
use Rattle.mp_lines.specs.Files.{file_of}
use Rattle.mp_lines.specs.Rules.{LineRules}
use Rattle.mp_names.specs.declared.controls.Control.{Control}
use Rattle.mp_names.specs.declared.controls.Shape.{Shape}
use Rattle.mp_text.specs.Numbers.{value_of}

-- the numbers of the fields after the kind
abbrev pub numbers_in : List (List ℕ) → List ℕ
numbers_in fields = map value_of (drop 1 fields)

-- a control record is at a time that isn't too late
abbrev pub is_in_time : Control → Bool
is_in_time control = nat_le control.time greatest_time

-- the control records that a line of this kind says
abbrev pub records_of_kind : Shape → Option LineKind → List (List ℕ) → List Control
records_of_kind shape None fields = []
records_of_kind shape (Some kind) fields = records_on_line shape (line_of kind (numbers_in fields))

-- the checks that a line of this kind fails, in their order, but for that of how many records there are: its fields, and that
-- none of its records is too late
abbrev pub failures_but_count : Shape → Option LineKind → List (List ℕ) → List ControlReason
failures_but_count shape None fields = Kind ∷ []
failures_but_count shape (Some kind) fields =
    failures_within (limits_of shape kind) fields
    ++ check (list_all is_in_time (records_on_line shape (line_of kind (numbers_in fields)))) Range

-- the checks that a line of this kind fails, where so many control records stand before it
abbrev pub failures_of_kind : Shape → ℕ → Option LineKind → List (List ℕ) → List ControlReason
failures_of_kind shape before kind fields =
    failures_but_count shape kind fields
    ++ check (nat_le (before + length (records_of_kind shape kind fields)) most_controls) Count

-- the checks that a line's fields fail
abbrev pub failures_of : Shape → ℕ → List (List ℕ) → List ControlReason
failures_of shape before fields = failures_of_kind shape before (kind_of (field_at fields 0)) fields

-- the control records that a line's fields say
abbrev pub records_on : Shape → List (List ℕ) → List Control
records_on shape fields = records_of_kind shape (kind_of (field_at fields 0)) fields

-- the checks that a line behind these control records fails, and all control records with those that it says
abbrev pub control_rules : Shape → LineRules (List Control) ControlReason
control_rules shape = record { failures = λ controls fields. failures_of shape (length controls) fields; after = λ controls fields. controls ++ records_on shape fields }

-- the control records of the lines of a file that aren't blank, or the number of its first line that fails a check and
-- the first check that this line fails
abbrev pub controls_of : List ℕ → Shape → Result (List Control) (ℕ × ControlReason)
controls_of text shape = file_of (control_rules shape) [] text
