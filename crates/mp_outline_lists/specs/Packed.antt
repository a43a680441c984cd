-- Numbers that tell moments, and places of a list.
use Rattle.std.specs.Prelude.{◌≡◌, ℕ, ◌<◌, ◌/◌, ◌%◌, List, Contains, get_or, length}
use Rattle.mp_names.specs.declared.names.Name.{Name}
use Rattle.mp_names.specs.declared.names.Name.TheVariants.{Written}
use Rattle.mp_outline_lists.specs.declared.moments.Moment.{Moment}

-- the moment that a number tells
abbrev pub moment_in : ℕ → ℕ → Moment
moment_in width n = record { time = n / width; key = n % width }

-- each place below this one is told by one of the numbers
abbrev pub TellsPlaces : ℕ → ℕ → List ℕ → Type 0
TellsPlaces upto width numbers = (place : ℕ) → place < upto → (n : ℕ) × Contains numbers n × (n % width ≡ place)

-- where there is a number, its remainder is one of a width
abbrev pub AreFit : ℕ → List ℕ → Type 0
AreFit width numbers = (n : ℕ) → Contains numbers n → 0 < width

-- the name at the place that a number tells
abbrev pub name_at : List Name → ℕ → Name
name_at names n = get_or names (n % length names) (Written 0)
