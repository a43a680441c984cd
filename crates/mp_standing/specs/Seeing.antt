-- What comes next.
use Rattle.std.specs.Prelude.{ℕ, ◌<◌, Option, None, Some}
use Rattle.mp_chart.specs.declared.entry.Entry.{Entry}

-- the next, if there is one, is of a later time
abbrev pub IsBeforeNext : ℕ → Option Entry → Type 0
IsBeforeNext t None = Unit {0}
IsBeforeNext t (Some e) = t < e.time
