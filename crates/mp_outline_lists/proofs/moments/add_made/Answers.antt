use Rattle.std.proofs.Common.{◌∙◌, ◌++◌, List, ap, append_assoc, get_or, sym, take}
use Rattle.std.specs.List.{flat_map, slice_get}
use Rattle.std.proofs.lemmas.List.{take_all}
use Rattle.std.proofs.lemmas.Option.{slice_get-get_or}
use Rattle.mp_names.specs.declared.names.Name.{Name}
use Rattle.mp_names.specs.declared.names.Name.TheVariants.{Ctrl}
use Rattle.mp_outline_lists.specs.declared.moments.Moment.{Moment}
use Rattle.mp_outline_lists.specs.Moments.{moments_made}
use Rattle.mp_outline_lists.proofs.Grouping.{flat_more}
use Rattle.mp_outline_lists.proofs.moments.add_made.Goals as goal

pub add_made_by-requires : goal.add_made_by-requires
add_made_by-requires g c =
    ap (λ (xs : List Name). slice_get xs c.loop-place.place) (sym c.records-records.ensures)
    ∙ slice_get-get_or c.records-records.result.now c.loop-place.place _ c.loop-place-test.true

pub loop-place-preserved : goal.loop-place-preserved
loop-place-preserved g c =
    let o = g.L.OutlineLists.outline c.args.lists.now in
    let made = moments_made o in
    let old = c.args.moments.now.items in
    let xs = c.records-records.result.now in
    let i = c.loop-place.place in
    let d = Ctrl 0 0 in
    c.in_ok-add_made_by.ensures
    ∙ ap (λ (ms : List Moment). ms ++ made (get_or xs i d)) c.loop-place.invariant
    ∙ append_assoc old (flat_map made (take i xs)) (made (get_or xs i d))
    ∙ ap (λ (ms : List Moment). old ++ ms) (sym (flat_more made xs i d c.loop-place-test.true))

pub returns : goal.returns
returns g c =
    let o = g.L.OutlineLists.outline c.args.lists.now in
    c.loop-place.invariant
    ∙ ap (λ (xs : List Name). c.args.moments.now.items ++ flat_map (moments_made o) xs) (take_all c.loop-place.place c.records-records.result.now c.loop-place-test.false ∙ c.records-records.ensures)
