-- One more cell has its place.
use Rattle.std.proofs.Common.{arith}
use Rattle.mp_opening.proofs.Placed.{more_places}
use Rattle.mp_opening.proofs.places.places_in_turn.Goals as goal

pub loop-place-preserved : goal.loop-place-preserved
loop-place-preserved g c =
    let cell = c.index-cells-place.result in
    rw
    (c.in_ok-push.ensures.items, c.bin_of.ensures.value)
    (more_places c.args.bins c.args.cells.now c.loop-place.place c.loop-place.places.items cell (omega arith) c.index-cells-place.is c.loop-place.invariant)
