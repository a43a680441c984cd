-- Tallies of a run.
use Rattle.std.proofs.Common.{ℕ, List, ◌∙◌, sym, ap}
use Rattle.mp_job.specs.Runs.{IsRunOf}
use Rattle.mp_model.specs.Facts.{JobFacts, QueryFacts}
use Rattle.mp_model.specs.Tables.{table_of}
use Rattle.mp_threads_member.specs.Below.{tally_of_job}
use Rattle.mp_tally.specs.declared.tally.Tally.{Tally}
use Rattle.mp_tally.specs.Tallies.{AreTalliesOf}

-- tallies of a run are the job's
module _ {Cell : Type 0} (facts : List ℕ → QueryFacts Cell) (its job : JobFacts) (run : IsRunOf its job) where
  pub tallies_of_run : (tallies : List Tally) → AreTalliesOf (table_of facts job) job tallies → AreTalliesOf (table_of facts its) its tallies
  tallies_of_run tallies are = record {
    all = are.all ∙ sym (ap (λ (f : JobFacts). f.shape.workers) run);
    each = λ w t at. tally_of_job facts its job run w t (are.each w t at);
  }
