-- Places in the order in which control records go out: each record to every worker in turn.
use Rattle.std.specs.Prelude.{ℕ, suc, ◌==◌, ◌||◌, ◌&&◌, Bool, nat_lt, if◌then◌else◌}
use Rattle.mp_names.specs.declared.pointstamps.ControlCursor.{ControlCursor}

-- the control record at this place of the order, as it goes to this receiver
abbrev pub cursor : ℕ → ℕ → ControlCursor
cursor p v = record { index = p; receiver = v }

-- by place and then by receiver, the control record comes before the cursor
abbrev pub is_before : ControlCursor → ℕ → ℕ → Bool
is_before next p v = nat_lt p next.index || p == next.index && nat_lt v next.receiver

-- what comes after it: the next receiver, or the first one of the next record
abbrev pub place_after : ℕ → ControlCursor → ControlCursor
place_after workers next = if suc next.receiver == workers then cursor (suc next.index) 0 else cursor next.index (suc next.receiver)
