-- What is taken is all the work so far but the run.
use Rattle.std.proofs.Common.{◌≡◌, ℕ, ◌+◌, take}
use Rattle.mp_names.specs.declared.locations.Loc.{Loc}
use Rattle.mp_chart.specs.Left.{AreLeft, HasWork, left_in, part_at, work_at}
use Rattle.mp_chart.proofs.left.take_all.Given as goal

abbrev pub invariant-loop-work : goal.invariant-loop-work
invariant-loop-work l =
    record {
      left : AreLeft l.counts;
      so_far : HasWork l.initial.counts l.done → (a : Loc) (t : ℕ) → left_in l.counts a t + work_at a t (take l.work-index l.done) ≡ left_in l.initial.counts a t + part_at a t l.run;
    }
