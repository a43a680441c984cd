-- What the events of a file leave of a query at a time may be saved.
use Rattle.std.specs.Prelude.{◌≡◌, ◌≢◌, ◌<◌, ◌≤◌, ℕ, true, All, Contains, List}
use Rattle.mp_names.specs.Limits.{greatest_id}
use Rattle.mp_model.specs.declared.record.Event.{Event}
use Rattle.mp_model.specs.declared.record.Rec.{Rec}
use Rattle.mp_model.specs.Facts.{QueryFacts}
use Rattle.mp_model.specs.Folds.{cell_before}
use Rattle.mp_model.specs.Legal.{EventsAreLegal}
use Rattle.mp_model.specs.Plain.{EventsArePlain}
use Rattle.mp_model.specs.QueryLaws.{RecordIsLegal}
use Rattle.mp_model.specs.Stages.{stage_records}

module _ {Cell : Type 0} where
  -- the keys of each stage are within the limit of ids
  abbrev pub KeysAreIds : QueryFacts Cell → Type 0
  KeysAreIds q = (events : List Event) → EventsAreLegal events → (j : ℕ) → j < q.stages → All (λ r. r.key ≤ greatest_id) (stage_records q events j)

  -- a cell just before a time may be saved at that time, if it isn't fresh; names in the events hold no bar and no line feed
  abbrev pub CellsMayBeSaved : QueryFacts Cell → Type 0
  CellsMayBeSaved q =
      (events : List Event) → EventsAreLegal events → EventsArePlain events → (j k t : ℕ) → j < q.stages
      → let cell = cell_before q j (stage_records q events j) k t in
      cell ≢ q.fresh j → q.allows j k t cell ≡ true

  -- a query whose records wake their keys has the number 4 or a greater one
  abbrev pub OnlyLateQueriesWake : ℕ → QueryFacts Cell → Type 0
  OnlyLateQueriesWake number q = (r : Rec) (u : ℕ) → RecordIsLegal r → Contains (q.posts 0 r) u → 4 ≤ number

  -- so a file can say what the events of a file leave
  pub record LeavesWhatMayBeSaved (number : ℕ) (q : QueryFacts Cell) : Type 0 where
    pub keys : KeysAreIds q
    pub cells : CellsMayBeSaved q
    pub wakes : OnlyLateQueriesWake number q
