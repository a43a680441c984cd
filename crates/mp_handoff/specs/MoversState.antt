-- What contracts see of the movers of a stage, and the order in which packets leave.
use Rattle.std.specs.Prelude.{ℕ, ◌==◌, ◌&&◌, ◌||◌, ◌<◌, nat_lt, Bool, true, List, AllPairs, Option, None, Some}
use Rattle.mp_names.specs.declared.pointstamps.TimedBin.{TimedBin}
use Rattle.mp_handoff.specs.declared.sent.Sent.{Sent}

-- a worker's movers of a stage: the noted times that aren't settled, ascending, each once; the time and bin of the last packet that was sent; for how many more notes there is room; the packets that were sent, in that order; for how many more of them there is room
pub record MoversState : Type 0 where
  pub stage : ℕ
  pub worker : ℕ
  pub unsettled : List ℕ
  pub last : Option TimedBin
  pub room : ℕ
  pub sent : List Sent
  pub room_for_sent : ℕ

-- each time comes before all that follow it
abbrev pub Rises : List ℕ → Type 0
Rises times = AllPairs (λ t u. t < u) times

-- by time, then by bin, the place comes after that of the last packet; after none every place does
abbrev pub is_after : Option TimedBin → ℕ → ℕ → Bool
is_after None t b = true
is_after (Some last) t b = nat_lt last.time t || last.time == t && nat_lt last.bin b
