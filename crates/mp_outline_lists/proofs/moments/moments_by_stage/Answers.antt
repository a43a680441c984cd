-- The moments of one more stage come to those so far.
use Rattle.std.proofs.Common.{◌∙◌, ◌+◌, ◌∷◌, [], ap, length, map, subst, sym}
use Rattle.std.proofs.lemmas.List.{length-append, length-map, map_push}
use Rattle.mp_outline_lists.specs.Moments.{AreMomentsBelow}
use Rattle.mp_outline_lists.proofs.Grouping.{one_more_stage}
use Rattle.mp_outline_lists.proofs.moments.moments_by_stage.Goals as goal

pub loop-stage-preserved : goal.loop-stage-preserved
loop-stage-preserved g c =
    let o = g.L.OutlineLists.outline c.args.lists.now in
    let j = c.loop-stage.stage in
    let before = c.loop-stage.moments.items in
    let own = c.in_ok-moments_of.field-0 in
    let is = ap (map (λ v. v.items)) c.in_ok-push.ensures.items ∙ map_push (λ v. v.items) before own in
    let count = length-map before (λ v. v.items) ∙ c.loop-stage.invariant.1 in
    let long = ap length c.in_ok-push.ensures.items ∙ length-append before (own ∷ []) ∙ ap (λ n. n + 1) c.loop-stage.invariant.1 in
    (subst (AreMomentsBelow (j + 1) o) (sym is) (one_more_stage o j (map (λ v. v.items) before) own.items count c.loop-stage.invariant.0 c.in_ok-moments_of.ensures), long)
