-- Frontiers from those of what comes right before.
use Rattle.std.specs.Prelude.{◌≡◌, ◌≢◌, ◌<◌, ℕ, zero, suc, List, ℤ, pos, get_or}
use Rattle.mp_names.specs.declared.locations.Frontier.{Frontier}
use Rattle.mp_names.specs.declared.locations.Frontier.TheVariants.{At, Done}
use Rattle.mp_names.specs.declared.locations.Loc.{Loc}
use Rattle.mp_names.specs.declared.locations.Loc.TheVariants.{Source, Host}
use Rattle.mp_names.specs.Frontiers.{IsFrontierOf, earlier}
use Rattle.mp_names.specs.Locations.{IsLocation}
use Rattle.mp_stamps.specs.Counts.{CountTable, count_in}
use Rattle.mp_stamps.specs.Places.{place_of}

-- it stands at the least time with a count other than 0, if there is one
abbrev pub IsFirstTime : (ℕ → ℤ) → Frontier → Type 0
IsFirstTime counts (At t) = (counts t ≢ pos 0) × ((u : ℕ) → u < t → counts u ≡ pos 0)
IsFirstTime counts Done = (u : ℕ) → counts u ≡ pos 0

-- by the places of locations, these are the least times with a count other than 0
abbrev pub AreFirstTimes : CountTable → List Frontier → Type 0
AreFirstTimes counts firsts = (at : Loc) → IsFirstTime (count_in counts at) (get_or firsts (place_of at) Done)

-- each frontier of the old counts is one of the new
abbrev pub KeepsFrontiers : CountTable → CountTable → Type 0
KeepsFrontiers old new = (at : Loc) (f : Frontier) → IsFrontierOf (count_in old) at f → IsFrontierOf (count_in new) at f

-- the earlier of two frontiers
abbrev pub earlier_of : Frontier → Frontier → Frontier
earlier_of (At t) other = earlier t other
earlier_of Done other = other

-- where the records of a stage come from: the source, or the hosts of the stage before
abbrev pub origin_of : ℕ → Loc
origin_of zero = Source
origin_of (suc j) = Host j

-- nothing is counted at locations of later stages than these
abbrev pub HasNoMore : CountTable → ℕ → Type 0
HasNoMore counts stages = (at : Loc) (t : ℕ) → (IsLocation stages at → ⊥) → count_in counts at t ≡ pos 0
