use Rattle.std.proofs.Common.{ℕ, ◌<◌, ◌≤◌, arith}
use Rattle.mp_names.specs.declared.locations.Loc.TheVariants.{Host}
use Rattle.mp_names.specs.Outlines.{control_at, time_of}
use Rattle.mp_names.proofs.Exact.{passed_earlier}
use Rattle.mp_machine.proofs.steps.latest_time_decides.Goals as goal

not_below : (s t : ℕ) → s < t → t ≤ s → ⊥
not_below s t l k = omega arith

pub returns-clause-first : goal.returns-clause-first
returns-clause-first c = λ o worker x none paced j i lj li less. absurd (not_below (control_at o i).time (time_of o x) less (none i li))

pub returns-clause-later : goal.returns-clause-later
returns-clause-later c = λ o worker x k paced latest. (
  (λ may j lj. may paced j k lj latest.listed latest.below),
  (λ h p j i lj li less. passed_earlier (worker.seen (Host j)) (control_at o k).time (control_at o i).time (h j lj) (latest.last i li less)),
)
