-- What workers do with some kinds of their steps.
use Rattle.std.specs.Prelude.{◌≡◌, ℕ, ◌==◌, Bool, true, false, cond, List, [], get_or, map}
use Rattle.std.specs.List.{range_with_len}
use Rattle.mp_names.specs.declared.kinds.Kind.{Kind}
use Rattle.mp_names.specs.declared.kinds.Kind.TheVariants.{Ingest, SendControl, Extract, Settle, Apply, SendRow, Write}
use Rattle.mp_names.specs.Outlines.{Outline, share, control_times, answer_times}
use Rattle.mp_player_laws.specs.Decisions.{controls_to_send, packets_to_send}
use Rattle.mp_chart.specs.declared.entry.Entry.{Entry}
use Rattle.mp_chart.specs.Entries.{entries_of}

-- shares by worker; the control records that worker 0 sends, and whether they wait in turn; packets by stage and worker; times of control records by stage; times of answer rows
pub record StepTables : Type 0 where
  pub paced : Bool
  pub shares : List (List Entry)
  pub controls : List Entry
  pub packets : List (List (List Entry))
  pub times : List (List Entry)
  pub written : List Entry

-- what a worker does with its steps of a kind; nothing, where the kind isn't one of these
abbrev pub list_at : StepTables → ℕ → Kind → List Entry
list_at t w Ingest = get_or t.shares w []
list_at t w SendControl = cond (w == 0) t.controls []
list_at t w (Extract j) = get_or (get_or t.packets j []) w []
list_at t w (Settle j) = get_or t.times j []
list_at t w Write = t.written
list_at t w _ = []

-- the kind isn't one of groups and answer rows, which other lists tell
abbrev pub is_told : Kind → Bool
is_told (Apply j) = false
is_told SendRow = false
is_told _ = true

abbrev pub shares_by_worker : Outline → List (List Entry)
shares_by_worker o = map (λ w. entries_of o (share o w)) (range_with_len 0 o.workers)

abbrev pub packets_by_worker : Outline → ℕ → List (List Entry)
packets_by_worker o j = map (λ w. entries_of o (packets_to_send o w j)) (range_with_len 0 o.workers)

abbrev pub packets_by_stage : Outline → List (List (List Entry))
packets_by_stage o = map (packets_by_worker o) (range_with_len 0 o.stages)

abbrev pub times_by_stage : Outline → List (List Entry)
times_by_stage o = map (λ j. entries_of o (control_times o j)) (range_with_len 0 o.stages)

-- The tables are those of the job
pub record TellsSteps (o : Outline) (t : StepTables) : Type 0 where
  pub paced : t.paced ≡ o.paced
  pub shares : t.shares ≡ shares_by_worker o
  pub controls : t.controls ≡ entries_of o (controls_to_send o 0)
  pub packets : t.packets ≡ packets_by_stage o
  pub times : t.times ≡ times_by_stage o
  pub written : t.written ≡ entries_of o (answer_times o)
