-- One more cell is copied.
use Rattle.std.proofs.Common.{◌≡◌, ◌<◌, Some, arith, length, refl, slice_index_or}
use Rattle.std.specs.Prelude.{slice_get}
use Rattle.std.proofs.lemmas.Option.{slice_get_read}
use Rattle.mp_opening.specs.declared.places.CellPlace.{CellPlace}
use Rattle.mp_opening.proofs.Placed.{more_cells}
use Rattle.mp_opening.proofs.places.copy_at.Goals as goal

pub loop-place-preserved : goal.loop-place-preserved
loop-place-preserved g c =
    let cells = c.args.cells.now in
    let places = c.args.places.now in
    let i = c.loop-place.place-index in
    let saved = c.index-cells-place.result in
    let none : CellPlace = record { stage = 0; bin = 0; place = 0 } in
    let n = (slice_index_or places i none).place in
    let within : n < length cells = c.requires i none (omega arith) in
    let read : slice_get cells n ≡ Some saved = slice_get_read cells (length cells) n saved refl within c.index-cells-place.is in
    rw (c.in_ok-push.ensures.items, c.in_ok-cell.ensures) (more_cells cells places i none c.loop-place.copies.items saved (omega arith) c.loop-place.invariant read)
