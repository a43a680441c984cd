-- The stage that a line says.
use Rattle.std.specs.Prelude.{ℕ, List, slice_index}
use Rattle.std.specs.Option.{unwrap_or}
use Rattle.mp_lines.specs.Checks.{field_at, number_at}
use Rattle.mp_pipe_file.specs.Words.{test_of}
use Rattle.mp_pipeline.specs.declared.stage.Form.{Form}
use Rattle.mp_pipeline.specs.declared.stage.Form.TheVariants.{Window}
use Rattle.mp_pipeline.specs.declared.stage.StageLine.{StageLine}
use Rattle.mp_pipeline.specs.declared.stage.Test.{Test}
use Rattle.mp_pipeline.specs.declared.stage.Test.TheVariants.{Any}

-- the width of a form, where this is that of windows
abbrev pub width_by : Form → ℕ → ℕ
width_by Window width = width
width_by _ width = 1

-- the stage of a form with a test and these numbers
abbrev pub stage_by : Form → Test → List ℕ → StageLine
stage_by form test ns = record {
  form = form;
  key = slice_index ns 0;
  value = slice_index ns 1;
  field = slice_index ns 2;
  test = test;
  number = slice_index ns 4;
  width = width_by form (slice_index ns 5);
}

-- the test that a line says, any where it says none
abbrev pub test_on : List (List ℕ) → Test
test_on fields = unwrap_or (test_of (field_at fields 4)) Any

-- the stage of a form that a line says: the fields of key and value and the one that is compared, the test, its number, and the length of windows
abbrev pub stage_on : Form → List (List ℕ) → StageLine
stage_on form fields = record {
  form = form;
  key = number_at fields 1;
  value = number_at fields 2;
  field = number_at fields 3;
  test = test_on fields;
  number = number_at fields 5;
  width = width_by form (number_at fields 6);
}
