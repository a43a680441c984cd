use Rattle.std.proofs.Common.{ℕ, ◌<◌}
use Rattle.mp_names.specs.declared.locations.Loc.TheVariants.{Host}
use Rattle.mp_names.specs.Frontiers.{HasPassed}
use Rattle.mp_stamps.specs.Seen.{seen_at}
use Rattle.mp_standing.proofs.seeing.hosts_passed.Given as goal

abbrev pub invariant-loop-stage : goal.invariant-loop-stage
invariant-loop-stage l = (j : ℕ) → j < l.stage → HasPassed (seen_at l.seen (Host j)) l.time
