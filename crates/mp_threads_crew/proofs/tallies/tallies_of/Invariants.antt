use Rattle.std.proofs.Common.{◌≡◌, ◌≤◌, ℕ, Some, length, vec_capacity}
use Rattle.std.specs.Prelude.{slice_get}
use Rattle.mp_tally.specs.declared.tally.Tally.{Tally}
use Rattle.mp_tally.specs.Tallies.{IsTallyOf}
use Rattle.mp_threads_crew.proofs.tallies.tallies_of.Given as goal
use Rattle.mp_model.specs.Tables.{table_of}

abbrev pub invariant-loop-worker : goal.invariant-loop-worker
invariant-loop-worker g l = record {
  room : length l.fn.workers ≤ vec_capacity l.tallies;
  many : length l.tallies.items ≡ l.worker-index;
  tallies : (w : ℕ) (t : Tally) → slice_get l.tallies.items w ≡ Some t → IsTallyOf (table_of g.Q.Query.facts g.J.Naming.job) g.J.Naming.job w t;
}
