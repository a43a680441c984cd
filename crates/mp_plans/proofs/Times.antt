-- No bin of a plan goes later than the last one.
use Rattle.std.proofs.Common.{◌+◌, ◌*◌, ◌/◌, ◌<◌, ◌≤◌, ℕ, arith}
use Rattle.std.proofs.Math.Nat.{div-mul-le_self}
use Rattle.std.proofs.lemmas.Nat.{le-div}
use Rattle.mp_plans.specs.declared.pace.Pace.{Pace}
use Rattle.mp_plans.specs.declared.pace.Pace.TheVariants.{AtOnce, Fluid, Batched}
use Rattle.mp_plans.specs.Plans.{FitsPace, time_by}

-- more gaps take no less time
pub more_gaps : (time gap a b : ℕ) → a ≤ b → time + a * gap ≤ time + b * gap
more_gaps time gap a b le = grind arith

-- a later bin is in no earlier batch
pub batches_rise : (size a b : ℕ) → 0 < size → a ≤ b → a / size ≤ b / size
batches_rise size a b some le = le-div (a / size) b size some (omega (arith, div-mul-le_self a size, le))

pub not_later : (pace : Pace) (time bin last : ℕ) → FitsPace pace → bin ≤ last → time_by pace time bin ≤ time_by pace time last
not_later AtOnce time bin last h le = omega arith
not_later (Fluid gap) time bin last h le = more_gaps time gap bin last le
not_later (Batched gap size) time bin last h le = more_gaps time gap (bin / size) (last / size) (batches_rise size bin last h le)
