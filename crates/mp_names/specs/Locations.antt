-- Where work is counted, and what could result in what.
use Rattle.std.specs.Prelude.{◌≡◌, ℕ, suc, ◌<◌, ◌⊎◌, Bool, true, false, ◌==◌, nat_lt, nat_le, List, [], ◌∷◌, ◌++◌}
use Rattle.mp_names.specs.declared.locations.Loc.{Loc}
use Rattle.mp_names.specs.declared.locations.Loc.TheVariants.{Ctl, CtlMail, Source, Route, Mail, Move, State, Host, OutRoute, OutMail}
use Rattle.mp_names.specs.Names.{joined_below}

-- a job of this many stages has the location
abbrev pub IsLocation : ℕ → Loc → Type 0
IsLocation stages (Route j) = j < stages
IsLocation stages (Mail j) = j < stages
IsLocation stages (Move j) = j < stages
IsLocation stages (State j) = j < stages
IsLocation stages (Host j) = j < stages
IsLocation stages _ = Unit {0}

-- the edges of the dataflow: what leaves the first location comes to the second. The outputs of a stage go to the next one, or, from the last, to the answer
abbrev pub Feeds : Loc → Loc → Type 0
Feeds Ctl b = b ≡ CtlMail
Feeds CtlMail b = (j : ℕ) × (b ≡ Move j)
Feeds Source b = b ≡ Route 0
Feeds (Route j) b = b ≡ Mail j
Feeds (Mail j) b = b ≡ Host j
Feeds (Move j) b = b ≡ State j
Feeds (State j) b = b ≡ Host j
Feeds (Host j) b = (b ≡ Route (suc j)) ⊎ (b ≡ OutRoute)
Feeds OutRoute b = b ≡ OutMail
Feeds OutMail b = ⊥

-- could result in: a path of edges, of any length, leads from the first location to the second
pub data Reaches : Loc → Loc → Type 0 where
  stays : {a : Loc} → Reaches a a
  goes : {a b c : Loc} → Feeds a b → Reaches b c → Reaches a c

-- The same as a table, for a test

-- the host of stage j, and all that comes after it
abbrev pub from_host : ℕ → Loc → Bool
from_host j (Route i) = nat_lt j i
from_host j (Mail i) = nat_lt j i
from_host j (Host i) = nat_le j i
from_host j OutRoute = true
from_host j OutMail = true
from_host j _ = false

abbrev pub from_mail : ℕ → Loc → Bool
from_mail j (Mail i) = nat_le j i
from_mail j b = from_host j b

abbrev pub from_route : ℕ → Loc → Bool
from_route j (Route i) = nat_le j i
from_route j b = from_mail j b

abbrev pub from_state : ℕ → Loc → Bool
from_state j (State i) = i == j
from_state j b = from_host j b

abbrev pub from_move : ℕ → Loc → Bool
from_move j (Move i) = i == j
from_move j b = from_state j b

-- every stage's moves, packets and hosts, and all but the records that come to stage 0
abbrev pub from_ctl_mail : Loc → Bool
from_ctl_mail CtlMail = true
from_ctl_mail (Move i) = true
from_ctl_mail (State i) = true
from_ctl_mail (Host i) = true
from_ctl_mail b = from_host 0 b

abbrev pub reaches : Loc → Loc → Bool
reaches Ctl Ctl = true
reaches Ctl b = from_ctl_mail b
reaches CtlMail b = from_ctl_mail b
reaches Source Source = true
reaches Source b = from_route 0 b
reaches (Route j) b = from_route j b
reaches (Mail j) b = from_mail j b
reaches (Move j) b = from_move j b
reaches (State j) b = from_state j b
reaches (Host j) b = from_host j b
reaches OutRoute OutRoute = true
reaches OutRoute OutMail = true
reaches OutRoute b = false
reaches OutMail OutMail = true
reaches OutMail b = false

-- the locations of a job with that many stages, in their order
abbrev pub locations : ℕ → List Loc
locations stages =
    Ctl ∷ CtlMail ∷ Source ∷ [] ++ joined_below stages (λ j. Route j ∷ Mail j ∷ Move j ∷ State j ∷ Host j ∷ []) ++ OutRoute ∷ OutMail ∷ []
