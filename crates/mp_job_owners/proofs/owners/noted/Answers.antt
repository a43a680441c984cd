use Rattle.std.proofs.Common.{◌∙◌, arith, get_or, refl}
use Rattle.mp_names.specs.Controls.{no_control}
use Rattle.mp_bins.specs.declared.owners.Note.{Note}
use Rattle.mp_bins.proofs.Told.{one_more}
use Rattle.mp_job_owners.proofs.Noted.{still_later, still_noted}
use Rattle.mp_job_owners.proofs.owners.noted.Goals as goal

pub loop-index-preserved : goal.loop-index-preserved
loop-index-preserved c =
    let before = c.loop-index.invariant in
    let grew = c.in_ok-note.ensures.noted in
    let n = c.loop-index.index in
    let note : Note = record { index = n; control = get_or c.args.controls.now n no_control } in
    record {
      layout = c.in_ok-note.ensures.layout ∙ before.layout;
      notes = one_more c.args.controls.now c.loop-index.owners c.note.new.self note before.notes (omega arith, refl) grew;
      noted = λ i l. still_noted c.loop-index.owners.noted c.note.new.self.noted note i grew l before.noted;
      later = λ i l. still_later c.loop-index.owners.noted c.note.new.self.noted note i grew l before.later;
    }
