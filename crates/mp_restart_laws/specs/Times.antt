-- Records, outputs and lines by their times: those below a time, and those from it on.
use Rattle.std.specs.Prelude.{ℕ, Bool, List, filter, nat_lt, not}
use Rattle.std.specs.List.{flat_map}
use Rattle.mp_model.specs.declared.record.Event.{Event}
use Rattle.mp_model.specs.declared.record.Output.{Output}
use Rattle.mp_model.specs.declared.record.Rec.{Rec}
use Rattle.mp_model.specs.Answers.{in_order, line_of}
use Rattle.mp_model.specs.Facts.{QueryFacts}
use Rattle.mp_model.specs.Stages.{answer_rows}

-- the number isn't below t
abbrev pub is_from : ℕ → ℕ → Bool
is_from t n = not (nat_lt n t)

abbrev pub records_below : ℕ → List Rec → List Rec
records_below t rs = filter (λ r. nat_lt r.time t) rs

abbrev pub records_from : ℕ → List Rec → List Rec
records_from t rs = filter (λ r. is_from t r.time) rs

abbrev pub outputs_below : ℕ → List Output → List Output
outputs_below t outputs = filter (λ o. nat_lt o.time t) outputs

abbrev pub outputs_from : ℕ → List Output → List Output
outputs_from t outputs = filter (λ o. is_from t o.time) outputs

-- the lines of the answer whose time is below this one
abbrev pub lines_below : {Cell : Type 0} → QueryFacts Cell → List Event → ℕ → List ℕ
lines_below q events t = flat_map line_of (filter (λ row. nat_lt row.0.time t) (in_order (answer_rows q events)))
