-- The moments of the stages so far are there.
use Rattle.std.proofs.Common.{◌≡◌, length, map}
use Rattle.mp_outline_lists.specs.Moments.{AreMomentsBelow}
use Rattle.mp_outline_lists.proofs.moments.moments_by_stage.Given as goal

abbrev pub invariant-loop-stage : goal.invariant-loop-stage
invariant-loop-stage g l =
    AreMomentsBelow l.stage (g.L.OutlineLists.outline l.lists) (map (λ v. v.items) l.moments.items) × (length l.moments.items ≡ l.stage)
