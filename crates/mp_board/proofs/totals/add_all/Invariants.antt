-- The changes so far are added, and there is room for the others.
use Rattle.std.proofs.Common.{◌≡◌, ℕ, ◌+◌, ◌+ℤ◌, false, length, take}
use Rattle.mp_names.specs.declared.locations.Loc.{Loc}
use Rattle.mp_stamps.specs.Counts.{IsCounted, SamePlaces, count_in}
use Rattle.mp_stamps.specs.Flow.{KeepsFrontiers}
use Rattle.mp_rows.specs.Entries.{sum_at}
use Rattle.mp_board.specs.Totals.{HasRoomFor}
use Rattle.mp_board.proofs.totals.add_all.Given as goal

abbrev pub invariant-loop-change : goal.invariant-loop-change
invariant-loop-change l = record {
  counted : (loc : Loc) (t : ℕ) → IsCounted l.initial.counts loc t → count_in l.counts loc t ≡ count_in l.initial.counts loc t +ℤ sum_at (take l.change-index l.changes) loc t;
  dropped : (loc : Loc) (t : ℕ) → (IsCounted l.initial.counts loc t → ⊥) → count_in l.counts loc t ≡ count_in l.initial.counts loc t;
  same : SamePlaces l.initial.counts l.counts;
  still : l.moved ≡ false → KeepsFrontiers l.initial.counts l.counts;
  room : (m k : ℕ) → m + l.change-index ≡ length l.changes → HasRoomFor (length l.changes + k) l.initial.counts → HasRoomFor (m + k) l.counts;
}
