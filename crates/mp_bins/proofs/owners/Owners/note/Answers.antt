use Rattle.std.proofs.Common.{◌≡◌, ◌≤◌, sym, ap, subst, ◌∙◌, arith}
use Rattle.mp_names.specs.declared.controls.Shape.{Shape}
use Rattle.mp_bins.specs.declared.owners.Note.{Note}
use Rattle.mp_bins.specs.Notes.{AreInOrder, AreWithin, IsWithin, Layout, Notes}
use Rattle.mp_bins.proofs.Placing.{All-with, with_in_order}
use Rattle.mp_bins.proofs.owners.Owners.note.Goals as goal

pub invariant_of-self : goal.invariant_of-self
invariant_of-self c =
    let note : Note = record { index = c.args.index; control = c.args.control } in
    let shape = c.self.inside.first.shape in
    let old = c.self.inside.notes.items in
    let same_shape : shape ≡ c.args.self.now.layout.shape = ap (λ (n : Notes). n.layout.shape) c.self.view_is ∙ ap (λ (l : Layout). l.shape) c.in_ok-make_room.ensures.layout in
    let asked : IsWithin shape c.args.control = subst (λ (s : Shape). IsWithin s c.args.control) (sym same_shape) c.requires.within in
    let e = c.put_down.ensures.notes in
    let same_room = ap (λ (n : Notes). n.room) c.self.view_is in
    let some : 1 ≤ c.self.inside.room = omega (arith, c.in_ok-make_room.ensures.room) in (
      c.self.invariant.0,
      subst (AreWithin shape) (sym e) (All-with (λ n. IsWithin shape n.control) old note asked c.self.invariant.1),
      subst AreInOrder (sym e) (with_in_order old note c.self.invariant.2),
      c.put_down.ensures.changes,
      omega arith,
      omega arith,
    )
