-- The rows that worker 0 holds, as its log says, and the answer's lines of a time.
use Rattle.std.specs.Prelude.{◌≡◌, ◌↔◌, ◌==◌, ℕ, false, List, filter, flat_map, map}
use Rattle.mp_names.specs.declared.names.Name.TheVariants.{Row, Written}
use Rattle.mp_names.specs.declared.names.Tag.{Tag}
use Rattle.mp_names.specs.Keeping.{IsUnwritten}
use Rattle.mp_names.specs.Logs.{Log, with_settled}
use Rattle.mp_names.specs.Names.{Distinct, In, IsLeast, has}
use Rattle.mp_model.specs.declared.record.Event.{Event}
use Rattle.mp_model.specs.declared.record.Output.{Output}
use Rattle.mp_model.specs.Answers.{in_order, line_of}
use Rattle.mp_model.specs.Facts.{QueryFacts}
use Rattle.mp_model.specs.Stages.{answer_rows}
use Rattle.mp_msg.specs.Below.{name_of_row}

-- The rows are those that the log has taken and of whose times it has written none, each once
pub record HoldsUnwritten (log : Log) (rows : List Output) : Type 0 where
  pub held : (t : ℕ) (g : Tag) → (In (Row t g) (map name_of_row rows) ↔ (In (Row t g) log.took × (has log.settled (Written t) ≡ false)))
  pub once : Distinct (map name_of_row rows)

-- every time of which the log has taken a row is written
abbrev pub AllAreWritten : Log → Type 0
AllAreWritten log = (t : ℕ) (g : Tag) → In (Row t g) log.took → In (Written t) log.settled

-- This time is the next that the log's worker may write, and once it has, it holds these rows
pub record WritesNext (log : Log) (t : ℕ) (rows : List Output) : Type 0 where
  pub least : IsLeast (IsUnwritten log) (Written t)
  pub held : HoldsUnwritten (with_settled log (Written t)) rows

-- the lines of a time in the one-thread answer to events
abbrev pub answer_at : {Cell : Type 0} → QueryFacts Cell → List Event → ℕ → List ℕ
answer_at q events t = flat_map line_of (filter (λ row. row.0.time == t) (in_order (answer_rows q events)))
