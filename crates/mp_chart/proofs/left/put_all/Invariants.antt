use Rattle.std.proofs.Common.{◌≡◌, ◌≤◌, ◌*◌, ◌^◌, ℕ, take}
use Rattle.mp_names.specs.declared.locations.Loc.{Loc}
use Rattle.mp_stamps.specs.Counts.{SamePlaces}
use Rattle.mp_chart.specs.Left.{AreLeft, left_in, work_at}
use Rattle.mp_chart.proofs.left.put_all.Given as goal

abbrev pub invariant-loop-work : goal.invariant-loop-work
invariant-loop-work l =
    record {
      left : AreLeft l.counts;
      same : SamePlaces l.initial.counts l.counts;
      few : (a : Loc) (t : ℕ) → left_in l.counts a t ≤ l.work-index * 2 ^ 32;
      so_far : (a : Loc) (t : ℕ) → left_in l.counts a t ≡ work_at a t (take l.work-index l.all);
    }
