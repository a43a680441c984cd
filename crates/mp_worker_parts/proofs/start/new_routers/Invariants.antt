use Rattle.std.proofs.Common.{◌≡◌, ℕ, length}
use Rattle.mp_names.specs.Logs.{empty_log}
use Rattle.mp_worker_invariant.specs.Parts.{AtEach, IsRouterAt}
use Rattle.mp_worker_parts.proofs.start.new_routers.Given as goal
use Rattle.mp_model.specs.Tables.{table_of}

abbrev pub invariant-loop-stage : goal.invariant-loop-stage
invariant-loop-stage g l = record {
  all : length l.routers.items ≡ l.stage;
  each : (w : ℕ) → AtEach l.routers.items (IsRouterAt (table_of g.Q.Query.facts g.J.Naming.job) g.J.Naming.job w empty_log);
}
