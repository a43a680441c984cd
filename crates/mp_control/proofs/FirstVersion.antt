-- A file that doesn't say its version says control records alone.
use Rattle.std.proofs.Common.{◌≡◌, ◌++◌, ◌∷◌, ℕ, Bool, true, false, None, Ok, List, [], length, map, ap, refl}
use Rattle.mp_control.specs.declared.refused.ControlReason.{ControlReason}
use Rattle.mp_control.specs.Controls.{control_rules, controls_of, failures_of, records_on}
use Rattle.mp_control.specs.Settings.{Said, nothing_said, setting_rules, settings_from, settings_of}
use Rattle.mp_control.specs.VersionOne.{begins_with_version, controls_alone, says_version}
use Rattle.mp_control.proofs.ValuesSaid.{by_none}
use Rattle.mp_lines.specs.Files.{failures_from, filled, said_after, unless_failed}
use Rattle.mp_model.specs.Rules.{RuleFacts}
use Rattle.mp_names.specs.declared.controls.Control.{Control}
use Rattle.mp_names.specs.declared.controls.Shape.{Shape}
use Rattle.mp_text.specs.Fields.{fields_of}
use Rattle.mp_text.specs.Lines.{numbered_lines_of}

module _ (shape : Shape) (rules : List RuleFacts) where
  -- these control records were said, and nothing else
  abbrev only : Bool → Bool → List Control → Said
  only begun late controls =
      record { shape = shape; version = 1; begun = begun; late = late; firsts = []; values = None ∷ None ∷ []; controls = controls }

  -- a line behind others is then a control line
  fails_alike : (late : Bool) (controls : List Control) (lines : List (ℕ × List ℕ))
      → failures_from (setting_rules rules) (only true late controls) lines ≡ failures_from (control_rules shape) controls lines
  fails_alike late controls [] = refl
  fails_alike late controls (line ∷ more) =
      ap (λ later. map (λ why. (line.0, why)) (failures_of shape (length controls) (fields_of line.1)) ++ later)
      (fails_alike true (controls ++ records_on shape (fields_of line.1)) more)

  says_alike : (late : Bool) (controls : List Control) (lines : List (ℕ × List ℕ))
      → settings_from rules (Ok (said_after (setting_rules rules) (only true late controls) lines)) ≡ controls_alone rules (Ok (said_after (control_rules shape) controls lines))
  says_alike late controls [] = ap (λ values. Ok (record { firsts = []; values = values; controls = controls })) (by_none rules)
  says_alike late controls (line ∷ more) = says_alike true (controls ++ records_on shape (fields_of line.1)) more

  -- what is said alike, unless there is a failure, is said alike
  unless_alike : (fails : List (ℕ × ControlReason)) (said : Said) (controls : List Control) → settings_from rules (Ok said) ≡ controls_alone rules (Ok controls)
      → settings_from rules (unless_failed fails said) ≡ controls_alone rules (unless_failed fails controls)
  unless_alike [] said controls e = e
  unless_alike (fail ∷ more) said controls e = refl

  alike : (lines : List (ℕ × List ℕ)) → begins_with_version lines ≡ false
      → settings_from rules (unless_failed (failures_from (setting_rules rules) (nothing_said shape) lines) (said_after (setting_rules rules) (nothing_said shape) lines))
      ≡ controls_alone rules (unless_failed (failures_from (control_rules shape) [] lines) (said_after (control_rules shape) [] lines))
  alike [] e = ap (λ values. Ok (record { firsts = []; values = values; controls = [] })) (by_none rules)
  alike (line ∷ more) e =
      rw (e, fails_alike true (records_on shape (fields_of line.1)) more)
      (unless_alike _ _ _ (says_alike true (records_on shape (fields_of line.1)) more))

  pub first_version : (text : List ℕ) → says_version text ≡ false → settings_of text shape rules ≡ controls_alone rules (controls_of text shape)
  first_version text e = alike (filled (numbered_lines_of text)) e
