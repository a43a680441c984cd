-- The groups that are due.
use Rattle.std.specs.Prelude.{ℕ, Bool, true, Option}
use Rattle.mp_names.specs.declared.names.Name.{Name}
use Rattle.mp_names.specs.declared.names.Name.TheVariants.{Group}
use Rattle.mp_names.specs.Outlines.{is_before_stop}

-- the group is before the stop time
abbrev pub is_due : Option ℕ → Name → Bool
is_due until (Group j t k) = is_before_stop until t
is_due until _ = true
