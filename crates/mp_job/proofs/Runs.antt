-- What a run of a job has in common with it: all but whether it is paced.
use Rattle.std.proofs.Common.{◌≡◌, ℕ, Bool, List, ap, subst}
use Rattle.mp_model.specs.Facts.{JobFacts, QueryFacts}
use Rattle.mp_model.specs.Tables.{table_of}
use Rattle.mp_job.specs.Legal.{JobIsLegal}
use Rattle.mp_job.specs.Runs.{IsRunOf}

-- a legal job is legal paced too
legal_as : {Cell : Type 0} (q : QueryFacts Cell) (job : JobFacts) (paced : Bool) → JobIsLegal q job → JobIsLegal q (record job { paced = paced })
legal_as q job paced legal = record {
  shape = legal.shape;
  stages = legal.stages;
  table = record { keys = legal.table.keys; gives = legal.table.gives; opening = legal.table.opening; waking = legal.table.waking };
  events = legal.events;
  controls = legal.controls;
  firsts = legal.firsts;
  controls_count = legal.controls_count;
  stop = legal.stop;
  saved = legal.saved;
}

module _ (its job : JobFacts) (run : IsRunOf its job) where
  pub run_shape : its.shape ≡ job.shape
  run_shape = ap (λ (f : JobFacts). f.shape) run

  pub run_controls : its.controls ≡ job.controls
  run_controls = ap (λ (f : JobFacts). f.controls) run

  module _ {Cell : Type 0} where
    -- a query has the same table in it
    pub run_table : (facts : List ℕ → QueryFacts Cell) → table_of facts its ≡ table_of facts job
    run_table facts = ap (table_of facts) run

    -- and it is legal where the job is
    pub run_is_legal : (facts : List ℕ → QueryFacts Cell) → JobIsLegal (table_of facts its) its → JobIsLegal (table_of facts job) job
    run_is_legal facts legal = subst (λ (f : JobFacts). JobIsLegal (table_of facts f) f) run (legal_as (table_of facts its) its job.paced legal)
