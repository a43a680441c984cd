-- A stage behind others.
use Rattle.std.proofs.Common.{◌≡◌, ◌<◌, ◌≤◌, ◌==◌, ◌++◌, ◌∙◌, lit<, ℕ, Bool, true, false, Option, None, Some, List, [], ◌∷◌, arith, drop, length, length-append, refl, sym}
use Rattle.std.specs.Prelude.{◌&&◌, ◌||◌, nat_le}
use Rattle.std.specs.List.{list_all}
use Rattle.std.specs.Option.{option_map}
use Rattle.std.proofs.Math.Dec.{eqb-suc-zero}
use Rattle.std.proofs.lemmas.Bool.{and_from, and_parts, eqb-true, false≢true, le-leb, lt-ltb}
use Rattle.std.proofs.lemmas.List.Folds.{list_all-append}
use Rattle.mp_lines.specs.declared.limits.NumberLimit.TheVariants.{Between}
use Rattle.mp_lines.specs.Checks.{FieldsPass, field_at}
use Rattle.mp_lines.proofs.FieldsRead.{passes_at}
use Rattle.mp_lines.proofs.LimitSteps.{passes_limit}
use Rattle.mp_lines.proofs.Starts.{empty_map, empty_parts, passes}
use Rattle.mp_pipe_file.specs.declared.fields.StageField.{StageField}
use Rattle.mp_pipe_file.specs.declared.fields.StageField.TheVariants.{Number}
use Rattle.mp_pipe_file.specs.Fields.{checks_of, failures_of_field, failures_within}
use Rattle.mp_pipe_file.specs.Lines.{MayFollow, failures_of_stage, fields_behind, is_in_order}
use Rattle.mp_pipe_file.specs.Stages.{stage_on}
use Rattle.mp_pipeline.specs.declared.kinds.EventKind.{EventKind}
use Rattle.mp_pipeline.specs.declared.stage.Form.{Form}
use Rattle.mp_pipeline.specs.declared.stage.Form.TheVariants.{Pass, Count, Sum, Window}
use Rattle.mp_pipeline.specs.declared.stage.StageLine.{StageLine}
use Rattle.mp_pipeline.specs.Pipes.{PipeFacts, has_no_window, has_width, may_stand}
use Rattle.mp_pipeline.specs.Stages.{is_no_window}

module _ (fields : List (List ℕ)) where
  fields_pass : (checks : List StageField) → failures_within checks fields ≡ [] → FieldsPass failures_of_field checks fields
  fields_pass checks e = let parts = empty_parts _ _ e in record { count = eqb-true _ _ (passes _ _ parts.0); pass = parts.1 }

  -- the width of a line whose fields pass is allowed
  width_passes : (form : Form) (count : ℕ) → failures_within (checks_of count form) fields ≡ [] → has_width (stage_on form fields) ≡ true
  width_passes Pass count e = refl
  width_passes Count count e = refl
  width_passes Sum count e = refl
  width_passes Window count e =
      let checks = checks_of count Window in
      let fails = passes_at failures_of_field checks fields 5 (Number (Between 1 43200)) (fields_pass checks e) (lit< tt) refl in
      passes_limit (Between 1 43200) (field_at fields 6) (empty_map _ _ fails)

-- windows are in the first stage alone, if this one comes in order
no_more_windows : (ls : List StageLine) (line : StageLine) → list_all has_no_window (drop 1 ls) ≡ true → (is_no_window line.form || (length ls == 0)) ≡ true
    → list_all has_no_window (drop 1 (ls ++ line ∷ [])) ≡ true
no_more_windows [] line none order = refl
no_more_windows (l ∷ ls) line none order = cases (is_no_window line.form) refl order
  where
    cases : (b : Bool) → is_no_window line.form ≡ b → (b || (length (l ∷ ls) == 0)) ≡ true → list_all has_no_window (ls ++ line ∷ []) ≡ true
    cases true is e = list_all-append has_no_window ls (line ∷ []) ∙ and_from _ _ none (rw is refl)
    cases false is e = absurd (false≢true (sym (eqb-suc-zero (length ls)) ∙ e))

-- so the lines may stand with it
stands_with : (ls : List StageLine) (line : StageLine) → may_stand ls ≡ true → has_width line ≡ true → (is_no_window line.form || (length ls == 0)) ≡ true → length ls < 4
    → may_stand (ls ++ line ∷ []) ≡ true
stands_with ls line stand width order few =
    let parts = and_parts (nat_le (length ls) 4 && list_all has_width ls) (list_all has_no_window (drop 1 ls)) stand in
    let both = and_parts (nat_le (length ls) 4) (list_all has_width ls) parts.0 in
    let count : length (ls ++ line ∷ []) ≤ 4 = omega (arith, length-append ls (line ∷ []), few) in
    let widths = list_all-append has_width ls (line ∷ []) ∙ and_from _ _ both.1 (rw width refl) in
    and_from _ _ (and_from _ _ (le-leb _ _ count) widths) (no_more_windows ls line parts.1 order)

-- the pipeline of a kind, if it was said, with these lines
abbrev pub said_with : Option EventKind → List StageLine → Option PipeFacts
said_with kind ls = option_map (λ (k : EventKind). let pipe : PipeFacts = record { kind = k; lines = ls } in pipe) kind

-- a line whose fields pass, which comes in order and behind fewer than four, fails no check and may follow
pub stage_passes : (kind : Option EventKind) (ls : List StageLine) (form : Form) (fields : List (List ℕ)) → may_stand ls ≡ true
    → failures_within (checks_of (fields_behind (said_with kind ls)) form) fields ≡ [] → is_in_order (said_with kind ls) form ≡ true → length ls < 4
    → (failures_of_stage (said_with kind ls) form fields ≡ []) × MayFollow (said_with kind ls) (stage_on form fields)
stage_passes None ls form fields stand pass order few = absurd (false≢true order)
stage_passes (Some k) ls form fields stand pass order few =
    (rw (pass, order, lt-ltb _ _ few) refl, stands_with ls (stage_on form fields) stand (width_passes fields form _ pass) order few)
