-- Who owns a bin, as the list of control records says: from the time of a record on its worker does, until a later record of that stage and bin. Of several at one time the last in the list counts.
use Rattle.std.specs.Prelude.{◌≡◌, ℕ, suc, ◌<◌, ◌≤◌, ◌⊎◌, Bool, true, false, cond, not, ◌&&◌, ◌==◌, nat_lt, List, [], ◌∷◌, length, filter, map, Option, None, Some, slice_index_or}
use Rattle.std.specs.Option.{option_map_or}
use Rattle.mp_names.specs.declared.names.Name.{Name}
use Rattle.mp_names.specs.declared.names.Name.TheVariants.{Packet}
use Rattle.mp_names.specs.declared.controls.Control.{Control}
use Rattle.mp_names.specs.declared.controls.Move.{Move}
use Rattle.mp_names.specs.Names.{ascending}

-- what stands where there is no record
abbrev pub no_control : Control
no_control = record { time = 0; stage = 0; bin = 0; worker = 0 }

abbrev pub control_of : List Control → ℕ → Control
control_of controls i = slice_index_or controls i no_control

-- the record is one of this stage and bin, of a time below t
abbrev pub is_below : ℕ → ℕ → ℕ → Control → Bool
is_below j b t c = c.stage == j && (c.bin == b && nat_lt c.time t)

-- the one of the later time; where the times are equal, the second
abbrev pub later_of : Control → Option Control → Option Control
later_of c None = Some c
later_of c (Some d) = cond (nat_lt d.time c.time) (Some c) (Some d)

-- of the records of a stage and bin with a time below t the one with the greatest time, the last in the list where several have it
abbrev pub last_below : List Control → ℕ → ℕ → ℕ → Option Control
last_below [] j b t = None
last_below (c ∷ cs) j b t = cond (is_below j b t c) (later_of c (last_below cs j b t)) (last_below cs j b t)

-- the owner just before t: the worker of that record, else the first owner
abbrev pub owner_below : List Control → ℕ → ℕ → ℕ → ℕ → ℕ
owner_below controls first j b t = option_map_or (λ c. c.worker) (last_below controls j b t) first

-- the owner changes at the time of the packet
abbrev pub is_change : List Control → (ℕ → ℕ → ℕ) → Name → Bool
is_change controls first (Packet j b t) = not (owner_below controls (first j b) j b t == owner_below controls (first j b) j b (suc t))
is_change controls first _ = false

-- the packets of all moves, by time, stage and bin: a bin moves only where it has a control record
abbrev pub packets_in : List Control → (ℕ → ℕ → ℕ) → List Name
packets_in controls first = filter (is_change controls first) (ascending (map (λ c. Packet c.stage c.bin c.time) controls))

abbrev pub move_in : List Control → (ℕ → ℕ → ℕ) → Name → Move
move_in controls first (Packet j b t) = record { time = t; stage = j; bin = b; from = owner_below controls (first j b) j b t; to = owner_below controls (first j b) j b (suc t) }
move_in controls first x = record { time = 0; stage = 0; bin = 0; from = 0; to = 0 }

-- the moves, by time, stage and bin
abbrev pub moves_in : List Control → (ℕ → ℕ → ℕ) → List Move
moves_in controls first = map (move_in controls first) (packets_in controls first)

-- the record at this index is that record, said without a search: none of its stage and bin below t is later, by time and then by index
pub record IsLastBelow (controls : List Control) (j b t i : ℕ) : Type 0 where
  pub listed : i < length controls
  pub below : is_below j b t (control_of controls i) ≡ true
  pub last : (k : ℕ) → k < length controls → is_below j b t (control_of controls k) ≡ true → ((control_of controls k).time < (control_of controls i).time) ⊎ (((control_of controls k).time ≡ (control_of controls i).time) × (k ≤ i))
