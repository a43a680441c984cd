-- Entries by the groups that they come from.
use Rattle.std.specs.Prelude.{◌≡◌, ℕ, Bool, false, not, ◌&&◌, List, [], ◌∷◌, AllPairs}
use Rattle.mp_names.specs.declared.names.Name.{Name}
use Rattle.mp_names.specs.declared.names.Name.TheVariants.{Rec, Row, Group}
use Rattle.mp_names.specs.Names.{is_before}
use Rattle.mp_chart.specs.declared.entry.Entry.{Entry}
use Rattle.mp_group_lists.specs.declared.moments.Moment.{Moment}

-- the time and the key of a group, and of the group that gave a record or an answer row
abbrev pub moment_of : Name → Moment
moment_of (Group j t k) = record { time = t; key = k }
moment_of (Rec j t k g) = record { time = t; key = g.0 }
moment_of (Row t g) = record { time = t; key = g.0 }
moment_of _ = record { time = 0; key = 0 }

-- the numbers that decide which of two moments comes first
abbrev pub rank_of : Moment → List ℕ
rank_of m = m.time ∷ m.key ∷ []

-- the first moment comes before the second
abbrev pub comes_before : Moment → Moment → Bool
comes_before m n = is_before (rank_of m) (rank_of n)

-- the entry is of the moment
abbrev pub is_at : Moment → Entry → Bool
is_at m e = not (comes_before (moment_of e.name) m) && not (comes_before m (moment_of e.name))

-- no entry comes before one that stands in front of it
abbrev pub AreByMoment : List Entry → Type 0
AreByMoment = AllPairs (λ d e. comes_before (moment_of e.name) (moment_of d.name) ≡ false)
