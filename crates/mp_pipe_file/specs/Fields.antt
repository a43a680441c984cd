-- The fields of a stage's line.
use Rattle.std.specs.Prelude.{ℕ, ◌+◌, ◌==◌, ◌^◌, ◌++◌, List, [], ◌∷◌, drop, is_some, length, map}
use Rattle.mp_lines.specs.declared.limits.NumberLimit.TheVariants.{Below, Between, UpTo}
use Rattle.mp_lines.specs.Checks.{check, failures_of_fields}
use Rattle.mp_lines.specs.Limits.{failures_of_number}
use Rattle.mp_pipe_file.specs.declared.fields.StageField.{StageField}
use Rattle.mp_pipe_file.specs.declared.fields.StageField.TheVariants.{Number, Test}
use Rattle.mp_pipe_file.specs.declared.refused.PipeReason.{PipeReason}
use Rattle.mp_pipe_file.specs.declared.refused.PipeReason.TheVariants.{Fields, Kind}
use Rattle.mp_pipe_file.specs.Reasons.{reason_of}
use Rattle.mp_pipe_file.specs.Words.{test_of}
use Rattle.mp_pipeline.specs.declared.stage.Form.{Form}
use Rattle.mp_pipeline.specs.declared.stage.Form.TheVariants.{Window}
use Rattle.mp_text.specs.Numbers.{value_of}

-- the checks that a field fails, in their order: those of a number, or that it is a test
abbrev pub failures_of_field : StageField → List ℕ → List PipeReason
failures_of_field (Number limit) field = map reason_of (failures_of_number limit field)
failures_of_field Test field = check (is_some (test_of field)) Kind

-- the number of a field, and 0 of a test
abbrev pub number_by : StageField → List ℕ → ℕ
number_by (Number limit) field = value_of field
number_by Test field = 0

-- what the fields after the form have to be, where records have so many fields: the fields of key and value and the one that is compared, a
-- test, its number, and the length of windows
abbrev pub checks_of : ℕ → Form → List StageField
checks_of count Window =
    Number (Below count) ∷ Number (Below count) ∷ Number (Below count) ∷ Test ∷ Number (UpTo (10 ^ 18)) ∷ Number (Between 1 43200) ∷ []
checks_of count _ = Number (Below count) ∷ Number (Below count) ∷ Number (Below count) ∷ Test ∷ Number (UpTo (10 ^ 18)) ∷ []

-- the checks that fields after a form fail: there is one for each of these, and it passes
abbrev pub failures_within : List StageField → List (List ℕ) → List PipeReason
failures_within checks fields =
    check (length fields == length checks + 1) Fields ++ failures_of_fields failures_of_field checks (drop 1 fields)
