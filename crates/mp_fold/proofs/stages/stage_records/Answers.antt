-- No time of a stage is too late, and its sums fit.
use Rattle.std.proofs.Common.{arith}
use Rattle.mp_model.proofs.LastTimes.{records_in_time, stage_outputs_in_time}
use Rattle.mp_fold.proofs.Fresh.{its_sums_fit, wakes_in_time}
use Rattle.mp_fold.proofs.stages.stage_records.Goals as goal

pub stage_outputs-requires-clause-times : goal.stage_outputs-requires-clause-times
stage_outputs-requires-clause-times g c κs within =
    let laws = g.met.Q.Query g.world.𝓛 g.world.𝓜 g.world.𝓡 ((λ s x. x), (λ x. x), (λ x. x), λ x. x) in
    let values = g.Q.Query.values c.args.query.now in
    let q = g.Q.Query.facts values in
    rw c.loop-before.invariant (records_in_time q (laws.posts_are_later values) (laws.later_stages_post_nothing values) (wakes_in_time q (laws.begins_fresh values)) c.args.events.now c.requires.events c.loop-before.before)

pub stage_outputs-requires-clause-fits : goal.stage_outputs-requires-clause-fits
stage_outputs-requires-clause-fits g c κs within =
    let laws = g.met.Q.Query g.world.𝓛 g.world.𝓜 g.world.𝓡 ((λ s x. x), (λ x. x), (λ x. x), λ x. x) in
    let values = g.Q.Query.values c.args.query.now in
    let fits = its_sums_fit g.Q.Query.facts values c.args.events.now laws.sums_fit (laws.begins_fresh values) c.requires.events in
    λ k. rw c.loop-before.invariant (fits c.loop-before.before k (omega arith))

pub output_records-requires-after_bounds : goal.output_records-requires-after_bounds
output_records-requires-after_bounds g c κs within =
    let laws = g.met.Q.Query g.world.𝓛 g.world.𝓜 g.world.𝓡 ((λ s x. x), (λ x. x), (λ x. x), λ x. x) in
    let values = g.Q.Query.values c.args.query.now in
    let q = g.Q.Query.facts values in
    rw (c.in_ok-outputs.ensures, c.loop-before.invariant) (stage_outputs_in_time q (laws.posts_are_later values) (laws.later_stages_post_nothing values) (wakes_in_time q (laws.begins_fresh values)) c.args.events.now c.requires.events c.loop-before.before)
