-- What a worker saw of the frontiers.
use Rattle.std.specs.Prelude.{ℕ, get_or}
use Rattle.mp_names.specs.declared.locations.Loc.{Loc}
use Rattle.mp_names.specs.declared.locations.Frontier.{Frontier}
use Rattle.mp_names.specs.declared.locations.Frontier.TheVariants.{Done}
use Rattle.mp_names.specs.Frontiers.{HasPassed, IsClosedForOne}
use Rattle.mp_names.specs.Locations.{IsLocation}
use Rattle.mp_names.specs.Logs.{Log}
use Rattle.mp_names.specs.Outlines.{Outline}
use Rattle.mp_stamps.specs.Places.{place_of}
use Rattle.mp_stamps.specs.declared.seen.Seen.{Seen}

-- the frontier of a location that was seen
abbrev pub seen_at : Seen → Loc → Frontier
seen_at seen loc = get_or seen.frontiers (place_of loc) Done

-- where a frontier that was seen has passed a time, the worker's own part is done in its log
abbrev pub SeenIsDone : Outline → ℕ → Log → Seen → Type 0
SeenIsDone o w log seen = (at : Loc) (t : ℕ) → IsLocation o.stages at → HasPassed (seen_at seen at) t → IsClosedForOne o w log at t
