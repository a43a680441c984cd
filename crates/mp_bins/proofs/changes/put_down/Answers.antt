use Rattle.std.proofs.Common.{List, refl, sym, subst, ◌∙◌, arith}
use Rattle.mp_bins.specs.declared.owners.Note.{Note}
use Rattle.mp_bins.specs.Notes.{AreInOrder, first_owner, place_of_note, with_note}
use Rattle.mp_bins.specs.Changes.{AreChangesOf}
use Rattle.mp_bins.proofs.Noting.{AreTouched, here_fresh, here_there, in_line, picked_too, then_fresh, then_there, then_too}
use Rattle.mp_bins.proofs.Placing.{put_is_with, with_in_order}
use Rattle.mp_bins.proofs.Searching.{place_inside, place_parts}
use Rattle.mp_bins.proofs.changes.put_down.Goals as goal

pub replace-requires : goal.replace-requires
replace-requires c =
    let layout = c.args.owners.now in
    let ns = c.args.notes.now.items in
    let note = c.args.note in
    let at = place_of_note ns note in
    let next = c.next_time-next.result in
    let here = c.move_at-here.result in
    let then = c.move_then-then.result in
    let new_here = c.move_at-new_here.result in
    let new_then = c.move_then-new_then.result in
    let f = c.of-first.ensures.owner in
    let owner = c.of-first.result in
    let first = first_owner layout note.control.stage note.control.bin in
    let inside = place_inside ns note in
    let split = place_parts ns note c.requires.order in
    let is_next = c.next_time-next.ensures in
    let new_is = c.insert_reserved.ensures.put ∙ put_is_with ns note c.requires.not_yet in
    let are : AreTouched layout ns c.requires.order note at inside split next is_next here then new_here new_then = record {
      here_is = picked_too ns ns note.control.stage note.control.bin note.control.time owner first here refl f (c.move_at-here.ensures.some, c.move_at-here.ensures.none);
      then_is = then_too ns ns note.control.stage note.control.bin owner first next then refl f (c.move_then-then.ensures.some, c.move_then-then.ensures.none);
      new_here_is = picked_too c.insert_reserved.new.self.items (with_note ns note) note.control.stage note.control.bin note.control.time owner first new_here new_is f (c.move_at-new_here.ensures.some, c.move_at-new_here.ensures.none);
      new_then_is = then_too c.insert_reserved.new.self.items (with_note ns note) note.control.stage note.control.bin owner first next new_then new_is f (c.move_then-new_then.ensures.some, c.move_then-new_then.ensures.none);
    } in
    record {
      ranked = c.requires.changes.ranked;
      room = omega arith;
      there = here_there layout ns c.requires.order note at inside split next is_next c.args.changes.now.items c.requires.changes here then new_here new_then are;
      fresh = here_fresh layout ns c.requires.order note at inside split next is_next c.args.changes.now.items c.requires.changes here then new_here new_then are;
    }

pub replace-requires-2 : goal.replace-requires-2
replace-requires-2 c =
    let layout = c.args.owners.now in
    let ns = c.args.notes.now.items in
    let note = c.args.note in
    let at = place_of_note ns note in
    let next = c.next_time-next.result in
    let here = c.move_at-here.result in
    let then = c.move_then-then.result in
    let new_here = c.move_at-new_here.result in
    let new_then = c.move_then-new_then.result in
    let f = c.of-first.ensures.owner in
    let owner = c.of-first.result in
    let first = first_owner layout note.control.stage note.control.bin in
    let inside = place_inside ns note in
    let split = place_parts ns note c.requires.order in
    let is_next = c.next_time-next.ensures in
    let new_is = c.insert_reserved.ensures.put ∙ put_is_with ns note c.requires.not_yet in
    let are : AreTouched layout ns c.requires.order note at inside split next is_next here then new_here new_then = record {
      here_is = picked_too ns ns note.control.stage note.control.bin note.control.time owner first here refl f (c.move_at-here.ensures.some, c.move_at-here.ensures.none);
      then_is = then_too ns ns note.control.stage note.control.bin owner first next then refl f (c.move_then-then.ensures.some, c.move_then-then.ensures.none);
      new_here_is = picked_too c.insert_reserved.new.self.items (with_note ns note) note.control.stage note.control.bin note.control.time owner first new_here new_is f (c.move_at-new_here.ensures.some, c.move_at-new_here.ensures.none);
      new_then_is = then_too c.insert_reserved.new.self.items (with_note ns note) note.control.stage note.control.bin owner first next new_then new_is f (c.move_then-new_then.ensures.some, c.move_then-new_then.ensures.none);
    } in
    record {
      ranked = c.replace.ensures.ranked;
      room = omega arith;
      there = then_there layout ns c.requires.order note at inside split next is_next c.args.changes.now.items c.requires.changes here then new_here new_then are c.replace.new.changes.items c.replace.ensures.replaced;
      fresh = then_fresh layout ns c.requires.order note at inside split next is_next c.args.changes.now.items c.requires.changes here then new_here new_then are c.replace.new.changes.items c.replace.ensures.replaced;
    }

pub returns-clause-changes : goal.returns-clause-changes
returns-clause-changes c =
    let layout = c.args.owners.now in
    let ns = c.args.notes.now.items in
    let note = c.args.note in
    let at = place_of_note ns note in
    let next = c.next_time-next.result in
    let here = c.move_at-here.result in
    let then = c.move_then-then.result in
    let new_here = c.move_at-new_here.result in
    let new_then = c.move_then-new_then.result in
    let f = c.of-first.ensures.owner in
    let owner = c.of-first.result in
    let first = first_owner layout note.control.stage note.control.bin in
    let inside = place_inside ns note in
    let split = place_parts ns note c.requires.order in
    let is_next = c.next_time-next.ensures in
    let new_is = c.insert_reserved.ensures.put ∙ put_is_with ns note c.requires.not_yet in
    let are : AreTouched layout ns c.requires.order note at inside split next is_next here then new_here new_then = record {
      here_is = picked_too ns ns note.control.stage note.control.bin note.control.time owner first here refl f (c.move_at-here.ensures.some, c.move_at-here.ensures.none);
      then_is = then_too ns ns note.control.stage note.control.bin owner first next then refl f (c.move_then-then.ensures.some, c.move_then-then.ensures.none);
      new_here_is = picked_too c.insert_reserved.new.self.items (with_note ns note) note.control.stage note.control.bin note.control.time owner first new_here new_is f (c.move_at-new_here.ensures.some, c.move_at-new_here.ensures.none);
      new_then_is = then_too c.insert_reserved.new.self.items (with_note ns note) note.control.stage note.control.bin owner first next new_then new_is f (c.move_then-new_then.ensures.some, c.move_then-new_then.ensures.none);
    } in
    subst (λ (ms : List Note). AreChangesOf layout ms c.replace-2.new.changes.items) (sym new_is) (in_line layout ns c.requires.order note at inside split next is_next c.args.changes.now.items c.requires.changes here then new_here new_then are c.replace.new.changes.items c.replace.ensures.replaced c.replace-2.new.changes.items c.replace-2.ensures.replaced c.replace-2.ensures.ranked)

pub move_at-new_here-requires : goal.move_at-new_here-requires
move_at-new_here-requires c =
    let ns = c.args.notes.now.items in
    let note = c.args.note in
    let new_is = c.insert_reserved.ensures.put ∙ put_is_with ns note c.requires.not_yet in
    subst AreInOrder (sym new_is) (with_in_order ns note c.requires.order)

pub move_then-new_then-requires : goal.move_then-new_then-requires
move_then-new_then-requires c =
    let ns = c.args.notes.now.items in
    let note = c.args.note in
    let new_is = c.insert_reserved.ensures.put ∙ put_is_with ns note c.requires.not_yet in
    subst AreInOrder (sym new_is) (with_in_order ns note c.requires.order)

pub returns-clause-notes : goal.returns-clause-notes
returns-clause-notes c = c.insert_reserved.ensures.put ∙ put_is_with c.args.notes.now.items c.args.note c.requires.not_yet
