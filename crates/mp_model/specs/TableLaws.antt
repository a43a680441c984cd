-- What holds of the table of a query in any job.
use Rattle.std.specs.Prelude.{◌≡◌, ℕ, None, List}
use Rattle.mp_model.specs.Facts.{JobFacts, QueryFacts}
use Rattle.mp_model.specs.QueryLaws.{BeginsFresh, FreshStaysFresh, HasStages, LaterStagesPostNothing, MostIsEnough, PostsAreLater}
use Rattle.mp_model.specs.Tables.{table_of}

-- it keeps to what the query keeps to
pub record TableKeepsLaws {Cell : Type 0} (q : QueryFacts Cell) : Type 0 where
  pub stages : HasStages q
  pub posts : PostsAreLater q
  pub nothing : LaterStagesPostNothing q
  pub most : MostIsEnough q
  pub fresh : FreshStaysFresh q

-- in a job without a stop time and a saved state it is the query's own
abbrev pub WholeJobsHaveTheQuery : {Cell : Type 0} → (List ℕ → QueryFacts Cell) → Type 0
WholeJobsHaveTheQuery facts = (job : JobFacts) → job.until ≡ None → job.from ≡ None → BeginsFresh (facts job.values) → table_of facts job ≡ facts job.values
