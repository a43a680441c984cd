-- The numbers that were read are those of the line.
use Rattle.std.proofs.Common.{◌≡◌, ◌∷◌, ◌+◌, ◌<◌, ◌^◌, lit<, ℕ, List, [], length, drop, get_or, refl, take, arith}
use Rattle.std.specs.Prelude.{slice_index}
use Rattle.std.proofs.lemmas.Bool.{eqb-true}
use Rattle.mp_lines.specs.declared.limits.NumberLimit.TheVariants.{Below, Between, UpTo}
use Rattle.mp_lines.specs.Checks.{field_at, number_at, numbers_of}
use Rattle.mp_lines.proofs.FieldsRead.{number_read}
use Rattle.mp_lines.proofs.Starts.{empty_parts, passes}
use Rattle.mp_pipe_file.specs.declared.fields.StageField.{StageField}
use Rattle.mp_pipe_file.specs.declared.fields.StageField.TheVariants.{Number, Test}
use Rattle.mp_pipe_file.specs.Fields.{checks_of, failures_within, number_by}
use Rattle.mp_pipe_file.specs.Stages.{stage_by, stage_on, test_on, width_by}
use Rattle.mp_pipeline.specs.declared.stage.Form.{Form}
use Rattle.mp_pipeline.specs.declared.stage.Form.TheVariants.{Pass, Count, Sum, Window}

module _ (fields : List (List ℕ)) (ns : List ℕ) where
  -- fields pass these checks, and these are their numbers
  abbrev pub AreRead : List StageField → Type 0
  AreRead checks = (failures_within checks fields ≡ []) × (take (length checks) ns ≡ numbers_of number_by checks (drop 1 fields))

  -- one of the numbers
  read_at : (checks : List StageField) (k : ℕ) (c : StageField) → AreRead checks → k < length checks → get_or checks k c ≡ c
      → get_or ns k 0 ≡ number_by c (field_at fields (1 + k))
  read_at checks k c h low is =
      let parts = empty_parts _ _ h.0 in
      number_read number_by checks fields ns k c (eqb-true _ _ (passes _ _ parts.0)) h.1 low is

  -- they say the stage that the line does, if the length of windows is that of the line
  stage_with : (form : Form) (count : ℕ) (more : List StageField)
      → AreRead (Number (Below count) ∷ Number (Below count) ∷ Number (Below count) ∷ Test ∷ Number (UpTo (10 ^ 18)) ∷ more)
      → width_by form (slice_index ns 5) ≡ width_by form (number_at fields 6) → stage_by form (test_on fields) ns ≡ stage_on form fields
  stage_with form count more h width =
      let place = Number (Below count) in
      let checks = place ∷ place ∷ place ∷ Test ∷ Number (UpTo (10 ^ 18)) ∷ more in
      let key = read_at checks 0 place h (omega arith) refl in
      let value = read_at checks 1 place h (omega arith) refl in
      let field = read_at checks 2 place h (omega arith) refl in
      let number = read_at checks 4 (Number (UpTo (10 ^ 18))) h (omega arith) refl in
      rw (key, value, field, number, width) refl

  pub stage_read : (form : Form) (count : ℕ) → AreRead (checks_of count form) → stage_by form (test_on fields) ns ≡ stage_on form fields
  stage_read Pass count h = stage_with Pass count [] h refl
  stage_read Count count h = stage_with Count count [] h refl
  stage_read Sum count h = stage_with Sum count [] h refl
  stage_read Window count h =
      stage_with Window count (Number (Between 1 43200) ∷ []) h (read_at (checks_of count Window) 5 (Number (Between 1 43200)) h (lit< tt) refl)
