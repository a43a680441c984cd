-- Where a location stands among those of a job.
use Rattle.std.specs.Prelude.{ℕ, ◌+◌, ◌*◌}
use Rattle.mp_names.specs.declared.locations.Loc.{Loc}
use Rattle.mp_names.specs.declared.locations.Loc.TheVariants.{Ctl, CtlMail, Source, Route, Mail, Move, State, Host, OutRoute, OutMail}

-- the location's place: first those without a stage, then five for each stage
abbrev pub place_of : Loc → ℕ
place_of Ctl = 0
place_of CtlMail = 1
place_of Source = 2
place_of OutRoute = 3
place_of OutMail = 4
place_of (Route j) = 5 * j + 5
place_of (Mail j) = 5 * j + 6
place_of (Move j) = 5 * j + 7
place_of (State j) = 5 * j + 8
place_of (Host j) = 5 * j + 9

-- of which stage the location is, 0 of one without a stage
abbrev pub stage_of : Loc → ℕ
stage_of (Route j) = j
stage_of (Mail j) = j
stage_of (Move j) = j
stage_of (State j) = j
stage_of (Host j) = j
stage_of _ = 0

-- how many places a job of so many stages has
abbrev pub places_of : ℕ → ℕ
places_of stages = 5 * stages + 5
