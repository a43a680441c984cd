-- What stands at the places of the bin is copied.
use Rattle.std.proofs.Common.{◌∙◌, ◌<◌, All, List, ap, filter, length, map, sym, subst}
use Rattle.std.proofs.lemmas.Result.{IfOk-weaker}
use Rattle.mp_opening.specs.declared.checkpoint.KeyCell.{KeyCell}
use Rattle.mp_opening.specs.declared.opening.Opening.TheInside.{Inside}
use Rattle.mp_opening.specs.declared.places.CellPlace.{CellPlace}
use Rattle.mp_opening.specs.ByBin.{cell_at, is_of_bin}
use Rattle.mp_opening.specs.Openings.{AreCellsOf, OpeningOf}
use Rattle.mp_opening.proofs.Placed.{cells_of_bin, inside}
use Rattle.mp_opening.proofs.opening.Opening.copy_cells.Goals as goal

pub copy_at-requires : goal.copy_at-requires
copy_at-requires g c =
    let own = c.self.inside in
    let cells = c.as_slice-2.ensures.value ∙ ap (λ (x : Inside _ _). x.checkpoint.cells) c.self-inside.view_is in
    let places = c.places_of-places.ensures ∙ ap (filter (is_of_bin c.args.stage c.args.bin)) (c.as_slice.ensures.value ∙ ap (λ (x : Inside _ _). x.places.items) c.self-inside.view_is) in
    let here = inside (record { bins = own.bins; from = own.checkpoint }) own.places.items own.wakes.items c.self.invariant c.args.stage c.args.bin in
    let all : All (λ p. p.place < length c.as_slice-2.result.now) c.places_of-places.result.now =
    subst
    (λ (ps : List CellPlace). All (λ p. p.place < length c.as_slice-2.result.now) ps)
    (sym places)
    (subst (λ (cs : List (KeyCell _)). All (λ p. p.place < length cs) (filter (is_of_bin c.args.stage c.args.bin) own.places.items)) (sym cells) here) in
    (c.type_bounds.send-Q-Cell, (c.type_bounds.sync-Q, (c.type_bounds.sync-Q-Cell, all)))

pub returns : goal.returns
returns g c =
    let own = c.self.inside in
    let cells = c.as_slice-2.ensures.value ∙ ap (λ (x : Inside _ _). x.checkpoint.cells) c.self-inside.view_is in
    let places = c.places_of-places.ensures ∙ ap (filter (is_of_bin c.args.stage c.args.bin)) (c.as_slice.ensures.value ∙ ap (λ (x : Inside _ _). x.places.items) c.self-inside.view_is) in
    IfOk-weaker
    c.copy_at.result
    _
    _
    (λ copies read.
    let same = ap (λ (cs : List (KeyCell _)). map (cell_at cs) c.places_of-places.result.now) cells ∙ ap (map (cell_at own.checkpoint.cells)) places in
    subst
    (λ (o : OpeningOf _). AreCellsOf o c.args.stage c.args.bin copies.items)
    c.self.view_is
    (cells_of_bin (record { bins = own.bins; from = own.checkpoint }) own.places.items own.wakes.items c.self.invariant c.args.stage c.args.bin copies.items (sym same ∙ read)))
    c.copy_at.ensures
