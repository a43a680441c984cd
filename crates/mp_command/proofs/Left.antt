-- What the events of a job leave at a time, where the job stops there.
use Rattle.std.proofs.Common.{◌≡◌, ◌∙◌, ℕ, List, None, Ok, Err, Result, Some, ap, sym}
use Rattle.std.specs.Prelude.{IfOk}
use Rattle.mp_model.specs.Facts.{JobFacts, QueryFacts}
use Rattle.mp_model.specs.Legal.{EventsAreLegal}
use Rattle.mp_model.specs.QueryLaws.{BeginsFresh, LaterStagesPostNothing, PostsAreLater}
use Rattle.mp_model.specs.Tables.{table_of}
use Rattle.mp_restart_laws.proofs.OfJobs.{job_stops}
use Rattle.mp_restart_laws.specs.Laws.{HasTheBeginning}
use Rattle.mp_restart_laws.specs.Saves.{HoldsWhatIsLeft, StandsInOrder}
use Rattle.mp_opening.specs.Checkpoints.{CheckpointOf}
use Rattle.mp_command.specs.Spans.{IsLeftAt}

module _ {Cell : Type 0} (facts : List ℕ → QueryFacts Cell) (job : JobFacts) (begins : BeginsFresh (facts job.values)) (later : PostsAreLater (facts job.values)) (nothing : LaterStagesPostNothing (facts job.values))
    (legal : EventsAreLegal job.events) (t : ℕ) (until : job.until ≡ Some t) (from : job.from ≡ None) where
  -- a checkpoint of what is left by the table of the job that stops is one by the query's own
  left_by : (c : CheckpointOf Cell) → c.time ≡ t → HoldsWhatIsLeft (table_of facts job) job.events c → StandsInOrder (table_of facts job) c → IsLeftAt (facts job.values) job.events t c
  left_by c at holds order =
      let has : HasTheBeginning (table_of facts job) (facts job.values) job.events c.time = job_stops facts job begins later nothing legal c.time (until ∙ ap (λ (n : ℕ). Some n) (sym at)) from in record {
        time = at;
        left = record {
          cells = λ j k less. holds.cells j k less ∙ has.cells j k;
          wakes = λ j k u less. ((λ w. (has.wakes j k u).0 ((holds.wakes j k u less).0 w)), λ left. (holds.wakes j k u less).1 ((has.wakes j k u).1 left));
        };
        order = record { cells_ascend = order.cells_ascend; wakes_ascend = order.wakes_ascend; cells = order.cells; wakes = order.wakes };
      }

  pub left_there : {E : Type 0} (result : Result (CheckpointOf Cell) E) → IfOk result (λ c. c.time ≡ t) → IfOk result (λ c. HoldsWhatIsLeft (table_of facts job) job.events c) → IfOk result (λ c. StandsInOrder (table_of facts job) c)
      → IfOk result (λ c. IsLeftAt (facts job.values) job.events t c)
  left_there (Ok c) at holds order = left_by c at holds order
  left_there (Err e) at holds order = tt
