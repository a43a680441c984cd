-- What holds of files that don't say their version.
use Rattle.std.specs.Prelude.{◌≡◌, ℕ, Bool, false, Result, Ok, Err, List, [], ◌∷◌}
use Rattle.mp_control.specs.declared.refused.ControlReason.{ControlReason}
use Rattle.mp_control.specs.Controls.{controls_of}
use Rattle.mp_control.specs.SettingKinds.{is_version}
use Rattle.mp_control.specs.Settings.{SettingsFacts, settings_of}
use Rattle.mp_lines.specs.Checks.{field_at}
use Rattle.mp_lines.specs.Files.{filled}
use Rattle.mp_model.specs.Rules.{RuleFacts, given_values}
use Rattle.mp_names.specs.declared.controls.Control.{Control}
use Rattle.mp_names.specs.declared.controls.Shape.{Shape}
use Rattle.mp_text.specs.Fields.{fields_of}
use Rattle.mp_text.specs.Lines.{numbered_lines_of}

-- the first of these lines says the file's version
abbrev pub begins_with_version : List (ℕ × List ℕ) → Bool
begins_with_version [] = false
begins_with_version (line ∷ more) = is_version (field_at (fields_of line.1) 0)

-- a file says its version: the first of its lines that aren't blank does
abbrev pub says_version : List ℕ → Bool
says_version text = begins_with_version (filled (numbered_lines_of text))

-- these control records, with no first owners and the given values; or the line that is refused and why
abbrev pub controls_alone : List RuleFacts → Result (List Control) (ℕ × ControlReason) → Result SettingsFacts (ℕ × ControlReason)
controls_alone rules (Ok controls) = Ok (record { firsts = []; values = given_values rules; controls = controls })
controls_alone rules (Err bad) = Err bad

-- a file that doesn't say its version says control records alone, or is refused for one of its control lines
abbrev pub VersionOneIsAsBefore : Type 0
VersionOneIsAsBefore =
    (text : List ℕ) (shape : Shape) (rules : List RuleFacts) → says_version text ≡ false
    → settings_of text shape rules ≡ controls_alone rules (controls_of text shape)
