-- The seeded schedule (this project's profile): while some worker doesn't know the end, a draw picks the next step.
use Rattle.std.specs.Prelude.{◌≡◌, ◌<◌, ◌≤◌, ℕ, ◌+◌, ◌*◌, ◌%◌, Bool, true, List, [], ◌∷◌, ◌++◌, Option, None, Some, drop, find, length, slice_get, take}
use Rattle.mp_names.specs.declared.kinds.Kept.{Kept}
use Rattle.mp_names.specs.declared.kinds.Kind.{Kind}
use Rattle.mp_names.specs.Outlines.{Outline, name_count}
use Rattle.mp_machine.specs.Places.{places}
use Rattle.mp_machine.specs.Runs.{Turn, WorkerIsFinished, is_made, made_count, run_of_machine, turn_of_machine, world_after}
use Rattle.mp_machine.specs.Worlds.{World, start_of_machine}
use Rattle.mp_journal_laws.specs.Kept.{kept_of}
use Rattle.mp_worker_refinement.specs.SystemState.{SystemState}
use Rattle.mp_draws.specs.Draws.{draw_of}
use Rattle.mp_plain.specs.Driven.{AllAreFull, AllKnowTheEnd, AreAfter, Driven, LeadsOn, Steps}

-- the places in their order, from the one that has the draw's number, modulo their count, wrapping round
abbrev pub places_from : Outline → ℕ → Steps
places_from o draw = drop (draw % length (places o)) (places o) ++ take (draw % length (places o)) (places o)

-- the machine can make the step of this place now
abbrev pub can_make : Outline → ℕ → World → ℕ × Kind → Bool
can_make o depth world place = is_made (turn_of_machine o depth world place.0 place.1)

-- the step that a draw picks: of those places the first whose step can be made
abbrev pub pick : Outline → ℕ → World → ℕ → Option (ℕ × Kind)
pick o depth world draw = find (can_make o depth world) (places_from o draw)

-- the step of this place is tried: from the draw's place on, none before it can be made
abbrev pub IsTried : Outline → ℕ → World → ℕ → ℕ × Kind → Type 0
IsTried o depth world draw place =
    (k : ℕ) × (slice_get (places_from o draw) k ≡ Some place) × (find (can_make o depth world) (take k (places_from o draw)) ≡ None)

-- each worker knows that all is over
abbrev pub AreFinished : Outline → World → Type 0
AreFinished o world = (w : ℕ) → w < o.workers → WorkerIsFinished o world w

-- The steps are the first ones of a seed's schedule from this world on: behind n others stands the step that draw n picks in the world after those, where some worker doesn't know the end
abbrev pub AreScheduled : Outline → ℕ → ℕ → World → Steps → Type 0
AreScheduled o depth seed world steps =
    (n : ℕ) (step : ℕ × Kind) → slice_get steps n ≡ Some step
    → (AreFinished o (world_after o depth world (take n steps)) → ⊥) × (pick o depth (world_after o depth world (take n steps)) (draw_of seed n) ≡ Some step)

-- A draw picks a step, which is made and counted
pub record MakesPick (o : Outline) (draw : ℕ) (old new : Driven) : Type 0 where
  pub step : ℕ × Kind
  pub turn : Turn
  pub picked : (before : Steps) → AreAfter o before old.state → pick o old.state.post.depth (run_of_machine o old.state.post.depth before) draw ≡ Some step
  pub lead : LeadsOn o (step ∷ []) (turn ∷ []) old.state new.state
  pub made : is_made turn ≡ true
  pub counted : new.made ≡ old.made + 1

-- The first n steps of a seed's schedule lead on; each is made, and there are no more than the machine can make in all
pub record FollowsSchedule (o : Outline) (seed n : ℕ) (old new : SystemState) : Type 0 where
  pub steps : Steps
  pub turns : List Turn
  pub scheduled : (before : Steps) → AreAfter o before old → AreScheduled o old.post.depth seed (run_of_machine o old.post.depth before) steps
  pub lead : LeadsOn o steps turns old new
  pub count : length steps ≡ n
  pub made : made_count turns ≡ n
  pub few : n ≤ (o.workers + 2) * name_count o

-- The first n steps of a seed's schedule lead on and are counted, and after them each worker knows that all is over and has done all that it has to do
pub record FollowsToEnd (o : Outline) (seed n : ℕ) (old new : Driven) : Type 0 where
  pub follows : FollowsSchedule o seed n old.state new.state
  pub counted : new.made ≡ old.made + n
  pub finished : AllKnowTheEnd o new.state
  pub full : AllAreFull o new.state

-- A seed's schedule from the start, with mailboxes of this depth, has n steps, and after them each worker knows that all is over
pub record EndsAfter (o : Outline) (depth seed n : ℕ) : Type 0 where
  pub steps : Steps
  pub scheduled : AreScheduled o depth seed (start_of_machine o) steps
  pub count : length steps ≡ n
  pub finished : AreFinished o (run_of_machine o depth steps)
  pub few : n ≤ (o.workers + 2) * name_count o

-- Each worker has kept what is kept by it of a seed's schedule from the start, with mailboxes of this depth, after which each worker knows that all is over
pub record IsKeptBySchedule (o : Outline) (depth seed : ℕ) (journals : List (List Kept)) : Type 0 where
  pub steps : Steps
  pub scheduled : AreScheduled o depth seed (start_of_machine o) steps
  pub finished : AreFinished o (run_of_machine o depth steps)
  pub all_workers : length journals ≡ o.workers
  pub each : (w : ℕ) (kept : List Kept) → slice_get journals w ≡ Some kept → kept ≡ kept_of o depth (start_of_machine o) steps w
