-- The bins so far that the worker owns are found.
use Rattle.std.proofs.Common.{◌≡◌}
use Rattle.mp_bins.specs.Notes.{owner_at}
use Rattle.mp_plans.specs.Drains.{bins_of}
use Rattle.mp_plans.proofs.drains.owned_bins.Given as goal

abbrev pub invariant-loop-bin : goal.invariant-loop-bin
invariant-loop-bin l = l.bins.items ≡ bins_of (λ bin. owner_at l.owners l.stage bin l.time) l.bin l.worker
