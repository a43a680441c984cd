-- The records so far are noted, and no others.
use Rattle.std.proofs.Common.{◌≡◌, ℕ}
use Rattle.std.specs.Prelude.{nat_lt}
use Rattle.mp_bins.specs.Laws.{AreNotesOf}
use Rattle.mp_bins.specs.Notes.{is_noted}
use Rattle.mp_control.proofs.list_owners.ListOwners.note_more.Given as goal

abbrev pub invariant-loop-index : goal.invariant-loop-index
invariant-loop-index l = record {
  layout : l.self.owners.layout ≡ l.fn.self.owners.layout;
  notes : AreNotesOf l.controls l.self.owners;
  noted : (i : ℕ) → is_noted l.self.owners.noted i ≡ nat_lt i l.index;
}
