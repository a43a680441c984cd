-- Why a plan appends nothing.
use Rattle.std.specs.Prelude.{◌≡◌, ◌<◌, ℕ}
use Rattle.mp_names.specs.Limits.{most_controls}
use Rattle.mp_plans.specs.declared.refused.PlanRefused.{PlanRefused}
use Rattle.mp_plans.specs.declared.refused.PlanRefused.TheVariants.{TooMany, NoMemory}

-- the list would have so many records, which is too many; an allocation failure says nothing of it
abbrev pub IsTooMany : ℕ → PlanRefused → Type 0
IsTooMany length (TooMany count) = (count ≡ length) × (most_controls < length)
IsTooMany length NoMemory = Unit {0}
