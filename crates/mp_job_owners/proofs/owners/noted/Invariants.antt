-- The records so far are noted, and no others.
use Rattle.std.proofs.Common.{◌≡◌, ◌<◌, ◌≤◌, ℕ, true, false}
use Rattle.mp_bins.specs.Laws.{AreNotesOf}
use Rattle.mp_bins.specs.Notes.{is_noted}
use Rattle.mp_job_owners.proofs.owners.noted.Given as goal

abbrev pub invariant-loop-index : goal.invariant-loop-index
invariant-loop-index l = record {
  layout : l.owners.layout ≡ record { shape = l.fn.shape; firsts = l.firsts };
  notes : AreNotesOf l.controls l.owners;
  noted : (i : ℕ) → i < l.index → is_noted l.owners.noted i ≡ true;
  later : (i : ℕ) → l.index ≤ i → is_noted l.owners.noted i ≡ false;
}
