use Rattle.std.proofs.Common.{◌∙◌, get_or, refl, subst, sym}
use Rattle.mp_bins.specs.declared.owners.Note.{Note}
use Rattle.mp_bins.specs.Notes.{IsWithin, Layout}
use Rattle.mp_bins.proofs.Told.{one_more}
use Rattle.mp_control.proofs.DrainSteps.{lt_itself, one_noted}
use Rattle.mp_names.specs.Controls.{no_control}
use Rattle.mp_control.proofs.list_owners.ListOwners.note_more.Goals as goal

pub note-requires-clause-not_yet : goal.note-requires-clause-not_yet
note-requires-clause-not_yet c = c.loop-index.invariant.noted c.loop-index.index ∙ lt_itself c.loop-index.index

pub note-requires-clause-within : goal.note-requires-clause-within
note-requires-clause-within c =
    subst (λ (l : Layout). IsWithin l.shape (get_or c.args.controls.now c.loop-index.index no_control)) (sym c.loop-index.invariant.layout)
    (c.requires.within c.loop-index.index no_control c.loop-index-test.true)

pub loop-index-preserved : goal.loop-index-preserved
loop-index-preserved c =
    let before = c.loop-index.invariant in
    let grew = c.in_ok-note.ensures.noted in
    let n = c.loop-index.index in
    let note : Note = record { index = n; control = get_or c.args.controls.now n no_control } in
    record {
      layout = c.in_ok-note.ensures.layout ∙ before.layout;
      notes = one_more c.args.controls.now c.loop-index.self.owners c.note.new.self note before.notes (c.loop-index-test.true, refl) grew;
      noted = one_noted c.loop-index.self.owners.noted c.note.new.self.noted note before.noted grew;
    }
