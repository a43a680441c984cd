use Rattle.std.proofs.Common.{◌≡◌, length}
use Rattle.mp_names.specs.Logs.{empty_log}
use Rattle.mp_worker_invariant.specs.Parts.{AtEach, IsHostAt}
use Rattle.mp_worker_parts.proofs.start.new_hosts.Given as goal
use Rattle.mp_model.specs.Tables.{table_of}

abbrev pub invariant-loop-stage : goal.invariant-loop-stage
invariant-loop-stage g l = record {
  all : length l.hosts.items ≡ l.stage;
  each : AtEach l.hosts.items (IsHostAt (table_of g.Q.Query.facts g.J.Naming.job) g.J.Naming.job l.worker empty_log);
}
