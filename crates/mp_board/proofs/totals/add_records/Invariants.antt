-- The records so far are counted, and there is room for the others.
use Rattle.std.proofs.Common.{◌≡◌, ℕ, ◌+◌, ◌+ℤ◌, length, take}
use Rattle.mp_names.specs.declared.locations.Loc.{Loc}
use Rattle.mp_stamps.specs.Counts.{IsCounted, SamePlaces, count_in}
use Rattle.mp_rows.specs.Entries.{sum_at}
use Rattle.mp_rows.specs.Opening.{source_entries}
use Rattle.mp_board.specs.Totals.{HasRoomFor}
use Rattle.mp_board.proofs.totals.add_records.Given as goal

abbrev pub invariant-loop-index : goal.invariant-loop-index
invariant-loop-index l = record {
  counted : (loc : Loc) (t : ℕ) → IsCounted l.initial.counts loc t → count_in l.counts loc t ≡ count_in l.initial.counts loc t +ℤ sum_at (source_entries l.events (take l.index-index l.share)) loc t;
  dropped : (loc : Loc) (t : ℕ) → (IsCounted l.initial.counts loc t → ⊥) → count_in l.counts loc t ≡ count_in l.initial.counts loc t;
  same : SamePlaces l.initial.counts l.counts;
  room : (m k : ℕ) → m + l.index-index ≡ length l.share → HasRoomFor (length l.share + k) l.initial.counts → HasRoomFor (m + k) l.counts;
}
