-- The records in order are the same, with the same timelines and outputs.
use Rattle.std.proofs.Common.{◌≡◌, ◌≤◌, IfOk, List, ap, ◌∙◌, subst}
use Rattle.std.proofs.lemmas.List.Sorted.{All-permutation}
use Rattle.mp_names.specs.Limits.{last_time}
use Rattle.mp_model.specs.declared.record.Output.{Output}
use Rattle.mp_model.specs.declared.record.Rec.{Rec}
use Rattle.mp_model.specs.Folds.{stage_outputs}
use Rattle.mp_fold.proofs.Reordered.{stage_same, timeline_same}
use Rattle.mp_fold.proofs.stages.stage_outputs.Goals as goal

pub fold_keys-requires-clause-by_key : goal.fold_keys-requires-clause-by_key
fold_keys-requires-clause-by_key g c κs within = rw c.as_slice.ensures.value c.in_ok-ordered.ensures.by_key

pub fold_keys-requires-clause-by_time : goal.fold_keys-requires-clause-by_time
fold_keys-requires-clause-by_time g c κs within = λ k. rw c.as_slice.ensures.value (c.in_ok-ordered.ensures.by_time k)

pub fold_keys-requires-clause-times : goal.fold_keys-requires-clause-times
fold_keys-requires-clause-times g c κs within =
    rw c.as_slice.ensures.value (All-permutation (λ (r : Rec). r.time ≤ last_time) c.args.recs.items c.in_ok-ordered.ordered.items c.in_ok-ordered.ensures.same c.requires.times)

pub fold_keys-requires-clause-fits : goal.fold_keys-requires-clause-fits
fold_keys-requires-clause-fits g c κs within =
    let q = g.Q.Query.facts (g.Q.Query.values c.args.query.now) in
    λ k. rw (c.as_slice.ensures.value, timeline_same q c.args.stage c.args.recs.items c.in_ok-ordered.ordered.items c.in_ok-ordered.ensures k) (c.requires.fits k)

pub returns : goal.returns
returns g c =
    let q = g.Q.Query.facts (g.Q.Query.values c.args.query.now) in
    let same = ap (stage_outputs q c.args.stage) c.as_slice.ensures.value ∙ stage_same q c.args.stage c.args.recs.items c.in_ok-ordered.ordered.items c.in_ok-ordered.ensures in
    subst (λ (os : List Output). IfOk c.fold_keys.result (λ v. v.items ≡ os)) same c.fold_keys.ensures
