-- What holds of all jobs that stop at a time, and of those that go on from what is left there.
use Rattle.std.specs.Prelude.{◌≡◌, ◌↔◌, ◌++◌, ℕ, All, List, None, Some, true}
use Rattle.mp_model.specs.declared.record.Event.{Event}
use Rattle.mp_model.specs.Answers.{one_thread_answer}
use Rattle.mp_model.specs.Facts.{JobFacts, QueryFacts, SavedState}
use Rattle.mp_model.specs.Folds.{cell_before}
use Rattle.mp_model.specs.Legal.{EventsAreLegal}
use Rattle.mp_model.specs.Stages.{answer_rows, stage_records}
use Rattle.mp_model.specs.Tables.{table_of}
use Rattle.mp_opening.specs.Checkpoints.{CheckpointOf, saved_in}
use Rattle.mp_restart_laws.specs.Saves.{HoldsWhatIsLeft, IsLeft, SaysWhatIsLeft, StandsInOrder}
use Rattle.mp_restart_laws.specs.Times.{lines_below, outputs_below, outputs_from, records_below}

-- the job goes on from a saved state
pub record GoesOnFrom (job : JobFacts) (saved : SavedState) : Type 0 where
  pub until : job.until ≡ None
  pub from : job.from ≡ Some saved

-- the first job stops at the time of a saved state, the second goes on from that, and both have the same events and values
pub record AreTwoJobs (first second : JobFacts) (saved : SavedState) : Type 0 where
  pub values : first.values ≡ second.values
  pub events : first.events ≡ second.events
  pub until : first.until ≡ Some saved.time
  pub from : first.from ≡ None
  pub goes_on : GoesOnFrom second saved

module _ {Cell : Type 0} where
  -- the stopped table has of events what the whole one has below a time: records, rows and lines, the cells just before it and the wakes that are left
  pub record HasTheBeginning (stopped whole : QueryFacts Cell) (events : List Event) (t : ℕ) : Type 0 where
    pub records : (j : ℕ) → stage_records stopped events j ≡ records_below t (stage_records whole events j)
    pub rows : answer_rows stopped events ≡ outputs_below t (answer_rows whole events)
    pub answer : one_thread_answer stopped events ≡ lines_below whole events t
    pub cells : (j k : ℕ) → cell_before stopped j (stage_records stopped events j) k t ≡ cell_before whole j (stage_records whole events j) k t
    pub wakes : (j k u : ℕ) → (IsLeft stopped t j (stage_records stopped events j) k u ↔ IsLeft whole t j (stage_records whole events j) k u)

  -- A job that stops at a time has the beginning of what the query has
  abbrev pub StopsGiveTheBeginning : (List ℕ → QueryFacts Cell) → Type 0
  StopsGiveTheBeginning facts =
      (job : JobFacts) (t : ℕ) → EventsAreLegal job.events → job.until ≡ Some t → job.from ≡ None
      → HasTheBeginning (table_of facts job) (facts job.values) job.events t

  -- A job that goes on from a saved state that says what its events leave has the rows of the query from then on
  abbrev pub RestartsGiveTheRest : (List ℕ → QueryFacts Cell) → Type 0
  RestartsGiveTheRest facts =
      (job : JobFacts) (saved : SavedState) → EventsAreLegal job.events → GoesOnFrom job saved
      → SaysWhatIsLeft (facts job.values) job.events saved
      → answer_rows (table_of facts job) job.events ≡ outputs_from saved.time (answer_rows (facts job.values) job.events)

  -- so the lines of the answer below that time, and then its lines, are the answer
  abbrev pub RestartsGiveTheAnswer : (List ℕ → QueryFacts Cell) → Type 0
  RestartsGiveTheAnswer facts =
      (job : JobFacts) (saved : SavedState) → EventsAreLegal job.events → GoesOnFrom job saved
      → SaysWhatIsLeft (facts job.values) job.events saved
      → lines_below (facts job.values) job.events saved.time ++ one_thread_answer (table_of facts job) job.events ≡ one_thread_answer (facts job.values) job.events

  -- Two jobs, of which the second goes on from what the first leaves, have together the answer
  abbrev pub TwoJobsGiveTheAnswer : (List ℕ → QueryFacts Cell) → Type 0
  TwoJobsGiveTheAnswer facts =
      (first second : JobFacts) (saved : SavedState) → EventsAreLegal second.events → AreTwoJobs first second saved
      → SaysWhatIsLeft (table_of facts first) first.events saved
      → one_thread_answer (table_of facts first) first.events ++ one_thread_answer (table_of facts second) second.events ≡ one_thread_answer (facts second.values) second.events

  -- Checkpoints of what is left at a time: as a saved state each says it, where its cells may be saved
  abbrev pub CheckpointsSayWhatIsLeft : (ℕ → Cell → List ℕ) → QueryFacts Cell → Type 0
  CheckpointsSayWhatIsLeft text q =
      (events : List Event) (c : CheckpointOf Cell) → HoldsWhatIsLeft q events c → All (λ s. q.allows s.stage s.key c.time s.cell ≡ true) c.cells
      → SaysWhatIsLeft q events (saved_in text c)

  -- and there is one of each time that stands in order
  abbrev pub CheckpointsAreOne : QueryFacts Cell → Type 0
  CheckpointsAreOne q =
      (events : List Event) (c d : CheckpointOf Cell) → c.time ≡ d.time
      → HoldsWhatIsLeft q events c → StandsInOrder q c → HoldsWhatIsLeft q events d → StandsInOrder q d
      → c ≡ d
