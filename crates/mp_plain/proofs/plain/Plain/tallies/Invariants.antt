use Rattle.std.proofs.Common.{◌≡◌, ◌≤◌, length, vec_capacity}
use Rattle.mp_plain.proofs.Counted.{AllTell}
use Rattle.mp_plain.proofs.plain.Plain.tallies.Given as goal
use Rattle.mp_model.specs.Tables.{table_of}

abbrev pub invariant-loop-worker : goal.invariant-loop-worker
invariant-loop-worker g l = record {
  room : length l.fn.self.state.workers ≤ vec_capacity l.tallies;
  many : length l.tallies.items ≡ l.worker-index;
  told : AllTell (table_of g.Q.Query.facts g.J.Naming.job) g.J.Naming.job l.fn.self.state.workers l.tallies.items;
}
