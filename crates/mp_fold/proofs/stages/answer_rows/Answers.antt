-- There is a last stage, no time of it is too late, and its sums fit.
use Rattle.std.proofs.Common.{◌-◌, arith}
use Rattle.mp_model.proofs.LastTimes.{records_in_time}
use Rattle.mp_fold.proofs.Fresh.{its_sums_fit, wakes_in_time}
use Rattle.mp_fold.proofs.stages.answer_rows.Goals as goal

pub overflow_sub-last : goal.overflow_sub-last
overflow_sub-last g c =
    let laws = g.met.Q.Query g.world.𝓛 g.world.𝓜 g.world.𝓡 ((λ s x. x), (λ x. x), (λ x. x), λ x. x) in
    let values = g.Q.Query.values c.args.query.now in
    omega (arith, c.stages-last.ensures, (laws.has_stages values).0)

pub stage_records-requires-clause-stage : goal.stage_records-requires-clause-stage
stage_records-requires-clause-stage g c κs within =
    let laws = g.met.Q.Query g.world.𝓛 g.world.𝓜 g.world.𝓡 ((λ s x. x), (λ x. x), (λ x. x), λ x. x) in
    let values = g.Q.Query.values c.args.query.now in
    omega (arith, c.stages-last.ensures, (laws.has_stages values).0)

pub stage_outputs-requires-clause-times : goal.stage_outputs-requires-clause-times
stage_outputs-requires-clause-times g c κs within =
    let laws = g.met.Q.Query g.world.𝓛 g.world.𝓜 g.world.𝓡 ((λ s x. x), (λ x. x), (λ x. x), λ x. x) in
    let values = g.Q.Query.values c.args.query.now in
    let q = g.Q.Query.facts values in
    rw c.in_ok-recs.ensures (records_in_time q (laws.posts_are_later values) (laws.later_stages_post_nothing values) (wakes_in_time q (laws.begins_fresh values)) c.args.events.now c.requires (c.stages-last.result - 1))

pub stage_outputs-requires-clause-fits : goal.stage_outputs-requires-clause-fits
stage_outputs-requires-clause-fits g c κs within =
    let laws = g.met.Q.Query g.world.𝓛 g.world.𝓜 g.world.𝓡 ((λ s x. x), (λ x. x), (λ x. x), λ x. x) in
    let values = g.Q.Query.values c.args.query.now in
    let fits = its_sums_fit g.Q.Query.facts values c.args.events.now laws.sums_fit (laws.begins_fresh values) c.requires in
    λ k. rw c.in_ok-recs.ensures (fits (c.stages-last.result - 1) k (omega (arith, c.stages-last.ensures, (laws.has_stages values).0)))
