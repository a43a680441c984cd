use Rattle.std.proofs.Common.{◌∷◌, ◌++◌, ◌∙◌, [], List, ap, refl}
use Rattle.mp_names.specs.declared.names.Name.{Name}
use Rattle.mp_outline.specs.JobOutline.{name_of_record}
use Rattle.mp_rows.proofs.Sources.{mapped_more}
use Rattle.mp_rows.proofs.new_names.NewNames.of_records.Goals as goal

pub loop-place-init : goal.loop-place-init
loop-place-init c =
    let f = name_of_record c.args.stage in
    let one = ap (λ (xs : List Name). xs ++ c.name_of-last.result ∷ []) c.no_list-before.ensures in
    mapped_more f c.args.recs.now 0 c.index-recs-0.result [] [] _ c.name_of-last.result c.requires refl one (c.name_of-last.ensures ∙ ap f c.index-recs-0.is)

pub loop-place-preserved : goal.loop-place-preserved
loop-place-preserved c =
    let f = name_of_record c.args.stage in
    let more = ap (λ (xs : List Name). xs ++ c.name_of-last-in-loop-place.result ∷ []) c.one_after-before.ensures in
    mapped_more f c.args.recs.now c.loop-place.place c.index-recs-place.result [] _ _ c.name_of-last-in-loop-place.result c.loop-place-test.true c.loop-place.invariant more (c.name_of-last-in-loop-place.ensures ∙ ap f c.index-recs-place.is)
