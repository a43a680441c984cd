-- What holds of two jobs, of which the second goes on from a checkpoint of what the first leaves.
use Rattle.std.specs.Prelude.{◌≡◌, ◌++◌, ℕ, All, List, true}
use Rattle.mp_model.specs.Answers.{one_thread_answer}
use Rattle.mp_model.specs.Facts.{JobFacts, QueryFacts}
use Rattle.mp_model.specs.Legal.{EventsAreLegal}
use Rattle.mp_model.specs.Plain.{EventsArePlain}
use Rattle.mp_model.specs.Tables.{table_of}
use Rattle.mp_opening.specs.Checkpoints.{CheckpointOf, saved_in}
use Rattle.mp_restart_laws.specs.Laws.{AreTwoJobs}
use Rattle.mp_restart_laws.specs.Saves.{HoldsWhatIsLeft, StandsInOrder}

module _ {Cell : Type 0} where
  -- where the cells of the checkpoint may be saved, the answers of the two jobs, one behind the other, are the whole answer
  abbrev pub SavesGiveTheAnswer : (ℕ → Cell → List ℕ) → (List ℕ → QueryFacts Cell) → Type 0
  SavesGiveTheAnswer text facts =
      (first second : JobFacts) (c : CheckpointOf Cell) → EventsAreLegal second.events → AreTwoJobs first second (saved_in text c)
      → HoldsWhatIsLeft (table_of facts first) first.events c
      → All (λ s. (facts first.values).allows s.stage s.key c.time s.cell ≡ true) c.cells
      → one_thread_answer (table_of facts first) first.events ++ one_thread_answer (table_of facts second) second.events ≡ one_thread_answer (facts second.values) second.events

  -- and so they are where the checkpoint stands in order and names in the events hold no bar and no line feed
  abbrev pub SavesOfPlainEventsGiveTheAnswer : (ℕ → Cell → List ℕ) → (List ℕ → QueryFacts Cell) → Type 0
  SavesOfPlainEventsGiveTheAnswer text facts =
      (first second : JobFacts) (c : CheckpointOf Cell) → EventsAreLegal second.events → EventsArePlain second.events → AreTwoJobs first second (saved_in text c)
      → HoldsWhatIsLeft (table_of facts first) first.events c
      → StandsInOrder (table_of facts first) c
      → one_thread_answer (table_of facts first) first.events ++ one_thread_answer (table_of facts second) second.events ≡ one_thread_answer (facts second.values) second.events
