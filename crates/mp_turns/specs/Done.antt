-- What a worker saw of locations where nothing can come any more before the stop time, or, where there is none, ever.
use Rattle.std.specs.Prelude.{ℕ, Option}
use Rattle.mp_names.specs.declared.locations.Loc.{Loc}
use Rattle.mp_names.specs.declared.locations.Loc.TheVariants.{Ctl, CtlMail, Source, Route, Mail, Move, State, Host, OutRoute, OutMail}
use Rattle.mp_names.specs.Frontiers.{HasEnded}
use Rattle.mp_names.specs.Locations.{IsLocation}
use Rattle.mp_stamps.specs.declared.seen.Seen.{Seen}
use Rattle.mp_stamps.specs.Seen.{seen_at}

-- the frontier of each location that a job of that many stages has is at its end
abbrev pub AllHaveEnded : Option ℕ → ℕ → Seen → Type 0
AllHaveEnded until stages seen = (at : Loc) → IsLocation stages at → HasEnded until (seen_at seen at)

-- The frontier of each location of a stage is at its end
pub record StageHasEnded (until : Option ℕ) (j : ℕ) (seen : Seen) : Type 0 where
  pub route : HasEnded until (seen_at seen (Route j))
  pub mail : HasEnded until (seen_at seen (Mail j))
  pub move : HasEnded until (seen_at seen (Move j))
  pub state : HasEnded until (seen_at seen (State j))
  pub host : HasEnded until (seen_at seen (Host j))

-- The frontier of each location that is of no stage is at its end
pub record OthersHaveEnded (until : Option ℕ) (seen : Seen) : Type 0 where
  pub ctl : HasEnded until (seen_at seen Ctl)
  pub ctl_mail : HasEnded until (seen_at seen CtlMail)
  pub source : HasEnded until (seen_at seen Source)
  pub out_route : HasEnded until (seen_at seen OutRoute)
  pub out_mail : HasEnded until (seen_at seen OutMail)
