-- A worker at its post and at its hub, and what a step leaves of the post.
use Rattle.std.specs.Prelude.{◌≡◌, ℕ, ◌≤◌}
use Rattle.mp_names.specs.Outlines.{Outline}
use Rattle.mp_names.specs.Logs.{Log, LogGrows}
use Rattle.mp_mailbox.specs.Standing.{KeepsEnds}
use Rattle.mp_worker_refinement.specs.Ends.{FollowsLog, MessagesFollowLog, PostMatchesLog, Standing, Waiting}
use Rattle.mp_worker_refinement.specs.State.{WorkerState}

module _ {P : Type 0} (workers depth : P → ℕ) (serves : P → ℕ → Type 0) (denotes : P → Standing) where
  -- The post is between the workers of the outline and serves this one, and at its ends stands for what its log has as sent and taken
  pub record IsAtPost (o : Outline) (w : ℕ) (log : Log) (post : P) : Type 0 where
    pub all_workers : workers post ≡ o.workers
    pub served : serves post w
    pub ends : PostMatchesLog (denotes post) o w log

  -- As the log of the worker changed, so did what the post stands for and what waits there; what it is to its workers is as it was
  pub record PostFollows (waits : P → Waiting) (o : Outline) (w : ℕ) (log now : Log) (old new : P) : Type 0 where
    pub follows : FollowsLog (denotes old) (denotes new) o w log now
    pub messages : MessagesFollowLog (waits old) (waits new) o w log now
    pub keeps : KeepsEnds workers depth serves old new

-- The hub serves the worker and has the log that it posted last, which its log has grown from, and no earlier version than the one that it saw
module _ {H : Type 0} (serves : H → ℕ → Type 0) (posted : H → ℕ → Log) (version : H → ℕ) where
  pub record IsAtHub (s : WorkerState) (hub : H) : Type 0 where
    pub served : serves hub s.number
    pub has_posted : posted hub s.number ≡ s.posted
    pub grows : LogGrows s.posted s.log
    pub later : s.seen.version ≤ version hub
