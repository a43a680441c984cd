-- What the line of a stage says of a record: its key, its value and when it wakes its key.
use Rattle.std.specs.Prelude.{ℕ, ◌+◌, ◌*◌, ◌/◌, ◌≤◌, ◌==◌, Bool, true, false, Option, Some, None, List, [], ◌∷◌, if◌then◌else◌, nat_le, nat_lt}
use Rattle.mp_model.specs.declared.record.Rec.{Rec}
use Rattle.mp_model.specs.declared.value.Value.{Value}
use Rattle.mp_pipeline.specs.declared.stage.Form.{Form}
use Rattle.mp_pipeline.specs.declared.stage.Form.TheVariants.{Window}
use Rattle.mp_pipeline.specs.declared.stage.StageLine.{StageLine}
use Rattle.mp_pipeline.specs.declared.stage.Test.{Test}
use Rattle.mp_pipeline.specs.declared.stage.Test.TheVariants.{Any, Below, Equal, AtLeast}
use Rattle.mp_pipeline.specs.Records.{number_in}

-- a number passes a test with another one
abbrev pub passes : Test → ℕ → ℕ → Bool
passes Any bound n = true
passes Below bound n = nat_lt n bound
passes Equal bound n = n == bound
passes AtLeast bound n = nat_le bound n

-- a number meets the test of a line
abbrev pub meets : StageLine → ℕ → Bool
meets line n = passes line.test line.number n

-- the key of a record at a time, where the field that is compared meets the test
abbrev pub key_by : StageLine → ℕ → Value → Option ℕ
key_by line t v = if meets line (number_in t v line.field) then Some (number_in t v line.key) else None

-- the value of a record
abbrev pub value_by : StageLine → Rec → ℕ
value_by line r = number_in r.time r.value line.value

-- a form without windows
abbrev pub is_no_window : Form → Bool
is_no_window Window = false
is_no_window _ = true

-- how long a window may be
abbrev pub IsWidth : ℕ → Type 0
IsWidth width = (1 ≤ width) × (width ≤ 43200)

-- where there are windows, the end of the one that the record is in
abbrev pub ends_by : Form → ℕ → ℕ → List ℕ
ends_by Window width t = (t / width + 1) * width ∷ []
ends_by _ width t = []

-- the times at which a record of the first stage wakes its key
abbrev pub posts_by : StageLine → Rec → List ℕ
posts_by line r = ends_by line.form line.width r.time
