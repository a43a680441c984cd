-- What a configuration says.
use Rattle.std.specs.Prelude.{◌++◌, ◌∷◌, ℕ, Bool, true, false, Option, None, Result, Ok, Err, List, [], length, slice_index}
use Rattle.mp_control.specs.declared.refused.ControlReason.{ControlReason}
use Rattle.mp_control.specs.declared.settings.Settings.{Settings}
use Rattle.mp_control.specs.declared.setting_kinds.SettingKind.{SettingKind}
use Rattle.mp_control.specs.declared.setting_kinds.SettingKind.TheVariants as kind
use Rattle.mp_control.specs.Controls.{failures_of, numbers_in, records_on}
use Rattle.mp_control.specs.Drains.{drain_of, failures_of_drain, records_by_drain}
use Rattle.mp_control.specs.Firsts.{failures_of_first, first_of}
use Rattle.mp_control.specs.Kinds.{failures_within}
use Rattle.mp_control.specs.SettingKinds.{limits_of_version, setting_kind_of}
use Rattle.mp_control.specs.Values.{failures_of_rule, place_of, values_by, with_value}
use Rattle.mp_bins.specs.Notes.{Layout}
use Rattle.mp_lines.specs.Checks.{field_at, number_at}
use Rattle.mp_lines.specs.Files.{file_of}
use Rattle.mp_lines.specs.Rules.{LineRules}
use Rattle.mp_model.specs.Rules.{RuleFacts}
use Rattle.mp_names.specs.declared.controls.Control.{Control}
use Rattle.mp_names.specs.declared.controls.First.{First}
use Rattle.mp_names.specs.declared.controls.Shape.{Shape}

-- the first owners of bins, the value of each rule, and the control records
pub record SettingsFacts : Type 0 where
  pub firsts : List First
  pub values : List ℕ
  pub controls : List Control

-- the lists of what was read
abbrev pub settings_in : Settings → SettingsFacts
settings_in s = record { firsts = s.firsts.items; values = s.values; controls = s.controls.items }

-- what lines said for a job of this shape: the version, whether there was a line at all, whether there was a control line, the first
-- owners, by their places the values of the two rules that a query has at most, and the control records
pub record Said : Type 0 where
  pub shape : Shape
  pub version : ℕ
  pub begun : Bool
  pub late : Bool
  pub firsts : List First
  pub values : List (Option ℕ)
  pub controls : List Control

-- no line said anything
abbrev pub nothing_said : Shape → Said
nothing_said shape =
    record { shape = shape; version = 1; begun = false; late = false; firsts = []; values = None ∷ None ∷ []; controls = [] }

-- the shape of the job, and the first owners that were said
abbrev pub layout_in : Said → Layout
layout_in said = record { shape = said.shape; firsts = said.firsts }

-- the checks that a line of this kind fails behind these, in their order
abbrev pub failures_by : List RuleFacts → Said → SettingKind → List (List ℕ) → List ControlReason
failures_by rules said kind.Version fields = failures_within limits_of_version fields
failures_by rules said kind.First fields = failures_of_first said.shape said.late said.firsts fields
failures_by rules said kind.Rule fields = failures_of_rule rules said.late said.values fields
failures_by rules said kind.Drain fields = failures_of_drain (layout_in said) said.controls fields
failures_by rules said kind.Control fields = failures_of said.shape (length said.controls) fields

-- with the version that a line says
abbrev pub with_version : Said → List (List ℕ) → Said
with_version said fields = record said { begun = true; version = slice_index (numbers_in fields) 0 }

-- with the first owner that a line says
abbrev pub with_first : Said → List (List ℕ) → Said
with_first said fields = record said { begun = true; firsts = said.firsts ++ first_of (numbers_in fields) ∷ [] }

-- with the value that a line says for one of these rules
abbrev pub with_rule : List RuleFacts → Said → List (List ℕ) → Said
with_rule rules said fields =
    record said { begun = true; values = with_value said.values (place_of rules (field_at fields 1)) (number_at fields 2) }

-- with the control records that a line says
abbrev pub with_controls : Said → List (List ℕ) → Said
with_controls said fields = record said { begun = true; late = true; controls = said.controls ++ records_on said.shape fields }

-- with the control records that a line says which drains a worker
abbrev pub with_drain : Said → List (List ℕ) → Said
with_drain said fields =
    record said { begun = true; late = true; controls = said.controls ++ records_by_drain (layout_in said) said.controls (drain_of (numbers_in fields)) }

-- what these said with a line of this kind
abbrev pub said_by : List RuleFacts → Said → SettingKind → List (List ℕ) → Said
said_by rules said kind.Version fields = with_version said fields
said_by rules said kind.First fields = with_first said fields
said_by rules said kind.Rule fields = with_rule rules said fields
said_by rules said kind.Drain fields = with_drain said fields
said_by rules said kind.Control fields = with_controls said fields

-- what a line behind these is about
abbrev pub kind_behind : Said → List (List ℕ) → SettingKind
kind_behind said fields = setting_kind_of said.begun said.version (field_at fields 0)

-- the checks that a line behind these fails, and what all say with it
abbrev pub setting_rules : List RuleFacts → LineRules Said ControlReason
setting_rules rules = record {
  failures = λ said fields. failures_by rules said (kind_behind said fields) fields;
  after = λ said fields. said_by rules said (kind_behind said fields) fields;
}

-- the settings of what all lines said: each rule has its value, or the given one
abbrev pub settings_by : List RuleFacts → Said → SettingsFacts
settings_by rules said = record { firsts = said.firsts; values = values_by rules said.values; controls = said.controls }

-- the same, unless a line is bad
abbrev pub settings_from : List RuleFacts → Result Said (ℕ × ControlReason) → Result SettingsFacts (ℕ × ControlReason)
settings_from rules (Ok said) = Ok (settings_by rules said)
settings_from rules (Err bad) = Err bad

-- the settings that a file says for a job of this shape, whose query has these rules, or the number of its first line that fails a check and
-- the first check that this line fails
abbrev pub settings_of : List ℕ → Shape → List RuleFacts → Result SettingsFacts (ℕ × ControlReason)
settings_of text shape rules = settings_from rules (file_of (setting_rules rules) (nothing_said shape) text)
