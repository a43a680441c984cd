-- One more place is told.
use Rattle.std.proofs.Common.{◌+◌, ℕ, List, length, subst, sym}
use Rattle.mp_outline_lists.specs.Packed.{AreFit, TellsPlaces}
use Rattle.mp_outline_lists.proofs.Packing.{more_told, still_fit}
use Rattle.mp_outline_lists.proofs.by_time.numbers_of.Goals as goal

pub loop-place-preserved : goal.loop-place-preserved
loop-place-preserved c =
    let width = length c.args.names.now in
    let place = c.loop-place.place in
    let n = c.in-Some.number in
    let numbers = c.loop-place.numbers.items in
    subst
    (λ (l : List ℕ). TellsPlaces (place + 1) width l × AreFit width l)
    (sym c.in_ok-push.ensures.items)
    (more_told width place n numbers c.loop-place.invariant.0 c.in-Some.ensures.second, still_fit width n numbers c.in-Some.ensures.some)
