-- Who holds a bin, and which packet of it is on its way.
use Rattle.std.specs.Prelude.{◌≡◌, ℕ, ◌<◌, false, ◌⊎◌}
use Rattle.mp_names.specs.declared.names.Name.TheVariants.{Packet}
use Rattle.mp_names.specs.Names.{has, In}
use Rattle.mp_names.specs.Outlines.{Outline, owner_before, owner_at}
use Rattle.mp_machine.specs.Worlds.{World}

-- The worker is the first owner, or took a packet of the bin, and since then it has sent no packet of it, by the times of the moves
abbrev pub Holds : Outline → World → ℕ → ℕ → ℕ → Type 0
Holds o world j b w =
    ((o.first_owner j b ≡ w) × ((m : ℕ) → In (Packet j b m) (world.worker w).log.sent → ⊥)) ⊎ ((m : ℕ) × In (Packet j b m) (world.worker w).log.took × ((n : ℕ) → m < n → In (Packet j b n) (world.worker w).log.sent → ⊥))

-- the packet of the move at m is sent and not taken
abbrev pub IsOnTheWay : Outline → World → ℕ → ℕ → ℕ → Type 0
IsOnTheWay o world j b m = In (Packet j b m) (world.worker (owner_before o j b m)).log.sent × (has (world.worker (owner_at o j b m)).log.took (Packet j b m) ≡ false)

-- one worker holds the bin, no other does, and no packet of it is on the way
pub record HasOneHolder (o : Outline) (world : World) (j b : ℕ) : Type 0 where
  pub holder : ℕ
  pub listed : holder < o.workers
  pub holds : Holds o world j b holder
  pub alone : (w : ℕ) → w < o.workers → Holds o world j b w → w ≡ holder
  pub settled : (m : ℕ) → IsOnTheWay o world j b m → ⊥

-- one packet of the bin is on the way, no other is, and no worker holds the bin
pub record HasOnePacket (o : Outline) (world : World) (j b : ℕ) : Type 0 where
  pub time : ℕ
  pub on_the_way : IsOnTheWay o world j b time
  pub alone : (m : ℕ) → IsOnTheWay o world j b m → m ≡ time
  pub unheld : (w : ℕ) → w < o.workers → Holds o world j b w → ⊥
