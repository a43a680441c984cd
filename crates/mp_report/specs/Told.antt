-- What tallies tell.
use Rattle.std.specs.Prelude.{ℕ, Bool, ◌==◌, ◌&&◌, List, [], ◌∷◌, flat_map, if◌then◌else◌, slice_get}
use Rattle.std.specs.Option.{option_map_or}
use Rattle.mp_names.specs.declared.controls.Move.{Move}
use Rattle.mp_tally.specs.declared.tally.Moved.{Moved}
use Rattle.mp_tally.specs.declared.tally.Tally.{Tally}

-- the packets of one worker after the other
abbrev pub packets_of : List Tally → List Moved
packets_of tallies = flat_map (λ t. t.moved.items) tallies

-- what orders packets: their time, stage and bin, as those of moves do
abbrev pub rank_of_packet : Moved → List ℕ
rank_of_packet x = x.time ∷ x.stage ∷ x.bin ∷ []

-- the packet is that of the move
abbrev pub is_moved_by : Move → Moved → Bool
is_moved_by m x = x.stage == m.stage && (x.bin == m.bin && x.time == m.time)

-- how many keys the first packet of the move had; 0 where there is none
abbrev pub keys_in : List Moved → Move → ℕ
keys_in [] m = 0
keys_in (x ∷ xs) m = if is_moved_by m x then x.keys else keys_in xs m

-- how many groups the worker of this number tells
abbrev pub groups_told : List Tally → ℕ → ℕ
groups_told tallies w = option_map_or (λ t. t.groups) (slice_get tallies w) 0
