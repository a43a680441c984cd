-- When the groups of a stage are.
use Rattle.std.specs.Prelude.{◌≡◌, ℕ, ◌<◌, List, [], ◌∷◌, get_or, map}
use Rattle.mp_names.specs.declared.names.Name.{Name}
use Rattle.mp_names.specs.declared.names.Name.TheVariants.{Rec, Group}
use Rattle.mp_names.specs.Outlines.{Outline, groups_of}
use Rattle.mp_outline_lists.specs.declared.moments.Moment.{Moment}

-- the time and the key of a record or a group
abbrev pub moment_of : Name → Moment
moment_of (Rec j t k g) = record { time = t; key = k }
moment_of (Group j t k) = record { time = t; key = k }
moment_of _ = record { time = 0; key = 0 }

-- the moments of the groups that a record makes: its own, and those that it posts
abbrev pub moments_made : Outline → Name → List Moment
moments_made o x = moment_of x ∷ map (λ u. record { time = u; key = (moment_of x).key }) (o.posts x)

-- the group of a stage at a moment
abbrev pub group_at : ℕ → Moment → Name
group_at j m = Group j m.time m.key

-- the lists are the moments of the groups of the stages below this one
abbrev pub AreMomentsBelow : ℕ → Outline → List (List Moment) → Type 0
AreMomentsBelow upto o lists = (j : ℕ) → j < upto → map (group_at j) (get_or lists j []) ≡ groups_of o j

-- the same of all stages
abbrev pub AreMomentsOf : Outline → List (List Moment) → Type 0
AreMomentsOf o lists = AreMomentsBelow o.stages o lists
