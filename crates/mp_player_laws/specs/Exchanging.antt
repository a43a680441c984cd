-- What an exchange does to the work left that the board shows, and what it sees.
use Rattle.std.specs.Prelude.{◌≡◌, ℕ, ◌+◌, ◌<◌, pos}
use Rattle.mp_names.specs.declared.locations.Loc.{Loc}
use Rattle.mp_names.specs.declared.locations.Frontier.{Frontier}
use Rattle.mp_names.specs.Outlines.{Outline, OutlineIsSound}
use Rattle.mp_names.specs.Frontiers.{IsFrontierOf}
use Rattle.mp_machine.specs.Worlds.{posted_logs, start_of_machine}
use Rattle.mp_machine.specs.Steps.{posted_with, having_seen}
use Rattle.mp_machine.specs.Promises.{InEveryRun}
use Rattle.mp_player_laws.specs.WorkLeft.{left_at, work_left}

-- from the posted logs to those with the worker's own the work left changes by what the worker has left
abbrev pub ExchangesMoveWork : Type 0
ExchangesMoveWork =
    InEveryRun (λ o depth world.
    (w : ℕ) (a : Loc) (t : ℕ)
    → w < o.workers
    → work_left o (posted_with world w) a t + left_at o w (world.worker w).posted a t ≡ work_left o (posted_logs world) a t + left_at o w (world.worker w).log a t)

-- and what an exchange sees are the frontiers of the work left then
abbrev pub ExchangesSeeWork : Type 0
ExchangesSeeWork =
    InEveryRun (λ o depth world.
    (w : ℕ) (at : Loc) (f : Frontier)
    → w < o.workers
    → IsFrontierOf (λ a t. pos (work_left o (posted_with world w) a t)) at f
    → f ≡ (having_seen o world w).seen at)

-- at the start each worker has seen the frontiers of all work
abbrev pub StartSeesWork : Type 0
StartSeesWork =
    (o : Outline) (w : ℕ) (at : Loc) (f : Frontier)
    → OutlineIsSound o
    → IsFrontierOf (λ a t. pos (work_left o (posted_logs (start_of_machine o)) a t)) at f
    → f ≡ ((start_of_machine o).worker w).seen at
