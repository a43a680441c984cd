-- Runs: the turn of each step, the world after a list of steps, and when all is over.
use Rattle.std.specs.Prelude.{◌≡◌, ℕ, Bool, true, false, cond, List, [], ◌∷◌, count_by, length, Option}
use Rattle.std.specs.Option.{option_map_or}
use Rattle.mp_names.specs.declared.names.Name.{Name}
use Rattle.mp_names.specs.declared.names.Name.TheVariants.{Row, Written}
use Rattle.mp_names.specs.declared.names.Tag.{Tag}
use Rattle.mp_names.specs.declared.locations.Loc.{Loc}
use Rattle.mp_names.specs.declared.locations.Frontier.{Frontier}
use Rattle.mp_names.specs.declared.kinds.Kind.{Kind}
use Rattle.mp_names.specs.declared.kinds.Kind.TheVariants.{Exchange}
use Rattle.mp_names.specs.Names.{In}
use Rattle.mp_names.specs.Outlines.{Outline}
use Rattle.mp_names.specs.Frontiers.{IsFrontier, HasEnded}
use Rattle.mp_names.specs.Locations.{IsLocation}
use Rattle.mp_machine.specs.Worlds.{World, posted_logs, start_of_machine}
use Rattle.mp_machine.specs.Steps.{names_of, stepped, exchanged, version_after}
use Rattle.mp_machine.specs.Tests.{next_name, is_allowed, can_exchange}

-- What a step does: it puts names into its worker's log, of which this is the first, and which are so many; or it is an exchange, which saw this version; or its condition is false
pub data Turn : Type 0 where
  Did : Name → ℕ → Turn
  Saw : ℕ → Turn
  NotNow : Turn

abbrev pub turn_with : Outline → ℕ → World → ℕ → Kind → Option Name → Turn
turn_with o depth world w kind tried = option_map_or (λ x. cond (is_allowed o depth world w kind x) (Did x (length (names_of o world w kind x))) NotNow) tried NotNow

abbrev pub turn_of : Outline → ℕ → World → ℕ → Kind → Turn
turn_of o depth world w Exchange = cond (can_exchange o world w) (Saw (version_after world w)) NotNow
turn_of o depth world w kind = turn_with o depth world w kind (next_name o world w kind)

-- the turn of one step of a worker, by its kind
unfoldable pub turn_of_machine : Outline → ℕ → World → ℕ → Kind → Turn
turn_of_machine o depth world w kind = turn_of o depth world w kind

abbrev pub after_turn : Outline → World → ℕ → Kind → Turn → World
after_turn o world w kind (Did x n) = stepped o world w kind x
after_turn o world w kind (Saw version) = exchanged o world w
after_turn o world w kind NotNow = world

-- the world after one step: where its condition is false, as it was
unfoldable pub step_of_machine : Outline → ℕ → World → ℕ → Kind → World
step_of_machine o depth world w kind = after_turn o world w kind (turn_of_machine o depth world w kind)

-- the world after a list of steps, each a worker and a kind
abbrev pub world_after : Outline → ℕ → World → List (ℕ × Kind) → World
world_after o depth world [] = world
world_after o depth world (s ∷ steps) = world_after o depth (step_of_machine o depth world s.0 s.1) steps

-- a run: the world after a list of steps from the start, with mailboxes of this depth
abbrev pub run_of_machine : Outline → ℕ → List (ℕ × Kind) → World
run_of_machine o depth steps = world_after o depth (start_of_machine o) steps

-- the turns of a list of steps, in order
abbrev pub turns_of : Outline → ℕ → World → List (ℕ × Kind) → List Turn
turns_of o depth world [] = []
turns_of o depth world (s ∷ steps) = turn_of_machine o depth world s.0 s.1 ∷ turns_of o depth (step_of_machine o depth world s.0 s.1) steps

abbrev pub is_made : Turn → Bool
is_made NotNow = false
is_made _ = true

-- how many of the steps are made, and not NotNow
abbrev pub made_count : List Turn → ℕ
made_count turns = count_by is_made turns

-- All is over: every frontier of the board has come to the end, and every answer row is written
pub record IsFinished (o : Outline) (world : World) : Type 0 where
  pub done : (at : Loc) → IsLocation o.stages at → (f : Frontier) × IsFrontier o (posted_logs world) at f × HasEnded o.until f
  pub written : (t : ℕ) (g : Tag) → In (Row t g) o.rows → In (Written t) (world.worker 0).log.settled

-- A worker knows that all is over: every frontier that it saw has come to the end, and worker 0 has written every row that it took
pub record WorkerIsFinished (o : Outline) (world : World) (w : ℕ) : Type 0 where
  pub done : (at : Loc) → IsLocation o.stages at → HasEnded o.until ((world.worker w).seen at)
  pub written : w ≡ 0 → (t : ℕ) (g : Tag) → In (Row t g) (world.worker w).log.took → In (Written t) (world.worker w).log.settled
