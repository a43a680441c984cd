-- What workers on one thread keep of the steps that they make.
use Rattle.std.specs.Prelude.{◌≡◌, ℕ, List, [], ◌++◌, map, Option, None, Some, slice_get}
use Rattle.std.specs.Option.{option_map_or}
use Rattle.mp_names.specs.declared.kinds.Kept.{Kept}
use Rattle.mp_names.specs.declared.kinds.Kind.{Kind}
use Rattle.mp_names.specs.Logs.{empty_log}
use Rattle.mp_names.specs.Outlines.{Outline}
use Rattle.mp_machine.specs.Worlds.{start_of_machine}
use Rattle.mp_journal_laws.specs.Kept.{kept_of}
use Rattle.mp_worker_refinement.specs.State.{WorkerState}
use Rattle.mp_worker_refinement.specs.SystemState.{SystemState}

-- what a worker has kept of its steps, in its order; nothing where it keeps none
abbrev pub journal_at : SystemState → ℕ → Option (List Kept)
journal_at t w = option_map_or (λ s. s.steps) (slice_get t.workers w) None

-- the same with more steps, where any are kept
abbrev pub with_more : Option (List Kept) → List Kept → Option (List Kept)
with_more None more = None
with_more (Some kept) more = Some (kept ++ more)

-- from the start of the machine these steps were made, and each worker that keeps its steps has kept its own of them
abbrev pub HaveKept : Outline → List (ℕ × Kind) → SystemState → Type 0
HaveKept o steps t = (w : ℕ) (kept : List Kept) → journal_at t w ≡ Some kept → kept ≡ kept_of o t.post.depth (start_of_machine o) steps w

-- The worker has put nothing into its log, and made no exchange
pub record HasMadeNone (s : WorkerState) : Type 0 where
  pub log : s.log ≡ empty_log
  pub version : s.seen.version ≡ 0

-- a worker that keeps its steps, and has made none
abbrev pub keeping : WorkerState → WorkerState
keeping s = record s { steps = Some [] }

-- all workers keep their steps, and have made none
abbrev pub all_keeping : SystemState → SystemState
all_keeping t = record t { workers = map keeping t.workers }
