-- What contracts see of the parts of a worker.
use Rattle.std.specs.Prelude.{ℕ, List, None, length}
use Rattle.mp_names.specs.declared.names.Name.{Name}
use Rattle.mp_names.specs.Logs.{empty_log}
use Rattle.mp_stamps.specs.declared.seen.Seen.{Seen}
use Rattle.mp_bins.specs.Notes.{Notes}
use Rattle.mp_model.specs.Facts.{JobFacts, QueryFacts}
use Rattle.mp_job.specs.Times.{post_times_of}
use Rattle.mp_route.specs.Routed.{Routed}
use Rattle.mp_host_laws.specs.Hosted.{Hosted}
use Rattle.mp_handoff.specs.MoversState.{MoversState}
use Rattle.mp_output.specs.Unwritten.{Unwritten}
use Rattle.mp_worker_invariant.specs.Kept.{with_all_took}
use Rattle.mp_worker_refinement.specs.State.{WorkerState}
use Rattle.mp_worker_parts.specs.declared.lists.ChangeLists.{ChangeLists}

-- the worker, which keeps no steps as far as its parts go; for how many more names and changes its log has room; the control records that it noted; by stage its routers, hosts and movers; the answer rows that it has to send, and those that it has to write; and its lists for what a step changes
pub record Contents (Cell : Type 0) : Type 0 where
  pub worker : WorkerState
  pub names : ℕ
  pub changes : ℕ
  pub notes : Notes
  pub routers : List Routed
  pub hosts : List (Hosted Cell)
  pub movers : List MoversState
  pub unsent : Unwritten
  pub unwritten : Unwritten
  pub lists : ChangeLists

-- the worker that they are of
abbrev pub worker_of : {Cell : Type 0} → Contents Cell → WorkerState
worker_of p = p.worker

-- a worker that has done nothing, and what it saw
abbrev pub new_worker : ℕ → Seen → WorkerState
new_worker w seen = record { number = w; log = empty_log; posted = empty_log; seen = seen; steps = None }

-- the worker with the names as taken
abbrev pub with_taken : List Name → WorkerState → WorkerState
with_taken xs s = record s { log = with_all_took s.log xs }

-- how many times the records of the job post, so that a packet has wakes of no more
abbrev pub number_of_post_times : {Cell : Type 0} → QueryFacts Cell → JobFacts → ℕ
number_of_post_times q job = length (post_times_of q job.events)
