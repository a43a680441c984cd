-- No time of a stage is too late, and its sums fit; each stage adds its names and makes the records of the next.
use Rattle.std.proofs.Common.{◌≡◌, ◌∙◌, ◌-◌, ◌+◌, ◌++◌, ◌∷◌, [], ap, arith, rules}
use Rattle.mp_model.proofs.LastTimes.{records_in_time, stage_outputs_in_time}
use Rattle.mp_model.specs.Stages.{stage_records}
use Rattle.mp_fold.proofs.Fresh.{its_sums_fit, wakes_in_time}
use Rattle.mp_job_lists.specs.Folded.{names_below}
use Rattle.mp_job_lists.proofs.Stages.{names_pushed}
use Rattle.mp_job_lists.proofs.fold.fold.Goals as goal

pub of-requires-after_bounds : goal.of-requires-after_bounds
of-requires-after_bounds g c κs within =
    let laws = g.met.Q.Query g.world.𝓛 g.world.𝓜 g.world.𝓡 ((λ s x. x), (λ x. x), (λ x. x), λ x. x) in
    let values = g.Q.Query.values c.args.query.now in
    let q = g.Q.Query.facts values in
    rw (c.as_slice.ensures.value, c.in_ok-recs.ensures) (records_in_time q (laws.posts_are_later values) (laws.later_stages_post_nothing values) (wakes_in_time q (laws.begins_fresh values)) c.args.events.now c.requires 0)

pub stage_outputs-requires-clause-times : goal.stage_outputs-requires-clause-times
stage_outputs-requires-clause-times g c κs within =
    let laws = g.met.Q.Query g.world.𝓛 g.world.𝓜 g.world.𝓡 ((λ s x. x), (λ x. x), (λ x. x), λ x. x) in
    let values = g.Q.Query.values c.args.query.now in
    let q = g.Q.Query.facts values in
    rw c.loop-stage.invariant.recs (records_in_time q (laws.posts_are_later values) (laws.later_stages_post_nothing values) (wakes_in_time q (laws.begins_fresh values)) c.args.events.now c.requires c.loop-stage.stage)

pub stage_outputs-requires-clause-fits : goal.stage_outputs-requires-clause-fits
stage_outputs-requires-clause-fits g c κs within =
    let laws = g.met.Q.Query g.world.𝓛 g.world.𝓜 g.world.𝓡 ((λ s x. x), (λ x. x), (λ x. x), λ x. x) in
    let values = g.Q.Query.values c.args.query.now in
    let fits = its_sums_fit g.Q.Query.facts values c.args.events.now laws.sums_fit (laws.begins_fresh values) c.requires in
    λ k. rw c.loop-stage.invariant.recs (fits c.loop-stage.stage k (omega (arith, c.stages-last.ensures, c.loop-stage-test.true)))

pub output_records-requires-after_bounds : goal.output_records-requires-after_bounds
output_records-requires-after_bounds g c κs within =
    let laws = g.met.Q.Query g.world.𝓛 g.world.𝓜 g.world.𝓡 ((λ s x. x), (λ x. x), (λ x. x), λ x. x) in
    let values = g.Q.Query.values c.args.query.now in
    let q = g.Q.Query.facts values in
    rw (c.in_ok-outputs.ensures, c.loop-stage.invariant.recs) (stage_outputs_in_time q (laws.posts_are_later values) (laws.later_stages_post_nothing values) (wakes_in_time q (laws.begins_fresh values)) c.args.events.now c.requires c.loop-stage.stage)

pub loop-stage-preserved : goal.loop-stage-preserved
loop-stage-preserved g c =
    let q = g.Q.Query.facts (g.Q.Query.values c.args.query.now) in
    let before = c.loop-stage.invariant in
    let grew : c.push.new.self.items ≡ c.loop-stage.records.items ++ c.in_ok-record_names.field-0 ∷ [] = search rules in
    record {
      names = names_pushed q c.args.events.now c.loop-stage.stage c.loop-stage.records.items c.push.new.self.items c.in_ok-record_names.field-0 grew before.names (rw (c.as_slice-in-loop-stage.ensures.value, before.recs) at c.in_ok-record_names.ensures);
      recs = search rules;
    }

pub stage_outputs-requires-2-clause-times : goal.stage_outputs-requires-2-clause-times
stage_outputs-requires-2-clause-times g c κs within =
    let laws = g.met.Q.Query g.world.𝓛 g.world.𝓜 g.world.𝓡 ((λ s x. x), (λ x. x), (λ x. x), λ x. x) in
    let values = g.Q.Query.values c.args.query.now in
    let q = g.Q.Query.facts values in
    rw c.loop-stage.invariant.recs (records_in_time q (laws.posts_are_later values) (laws.later_stages_post_nothing values) (wakes_in_time q (laws.begins_fresh values)) c.args.events.now c.requires c.loop-stage.stage)

pub stage_outputs-requires-2-clause-fits : goal.stage_outputs-requires-2-clause-fits
stage_outputs-requires-2-clause-fits g c κs within =
    let laws = g.met.Q.Query g.world.𝓛 g.world.𝓜 g.world.𝓡 ((λ s x. x), (λ x. x), (λ x. x), λ x. x) in
    let values = g.Q.Query.values c.args.query.now in
    let last : c.loop-stage.stage ≡ c.stages-last.result - 1 = omega (arith, c.loop-stage.auto.stage-end, c.loop-stage-test.false) in
    let fits = its_sums_fit g.Q.Query.facts values c.args.events.now laws.sums_fit (laws.begins_fresh values) c.requires in
    λ k. rw (c.loop-stage.invariant.recs, last) (fits (c.stages-last.result - 1) k (omega (arith, c.stages-last.ensures, (laws.has_stages values).0)))

pub returns : goal.returns
returns g c =
    let laws = g.met.Q.Query g.world.𝓛 g.world.𝓜 g.world.𝓡 ((λ s x. x), (λ x. x), (λ x. x), λ x. x) in
    let values = g.Q.Query.values c.args.query.now in
    let q = g.Q.Query.facts values in
    let events = c.args.events.now in
    let last : c.loop-stage.stage ≡ q.stages - 1 = omega (arith, c.stages-last.ensures, c.loop-stage.auto.stage-end, c.loop-stage-test.false) in
    let all : c.loop-stage.stage + 1 ≡ q.stages = omega (arith, last, (laws.has_stages values).0) in
    let given : c.stages-last.result - 1 ≡ q.stages - 1 = omega (arith, c.stages-last.ensures) in
    let recs : c.loop-stage.recs.items ≡ stage_records q events (q.stages - 1) = c.loop-stage.invariant.recs ∙ ap (stage_records q events) last in
    let grew : c.push-2.new.self.items ≡ c.loop-stage.records.items ++ c.in_ok-record_names-2.field-0 ∷ [] = search rules in
    let named = rw (c.as_slice-2.ensures.value, c.loop-stage.invariant.recs, given, last) at c.in_ok-record_names-2.ensures in
    let names = names_pushed q events c.loop-stage.stage c.loop-stage.records.items c.push-2.new.self.items c.in_ok-record_names-2.field-0 grew c.loop-stage.invariant.names (rw last named) in
    record {
      records = names ∙ ap (names_below q events) all;
      posts = rw (c.as_slice.ensures.value, c.in_ok-recs.ensures) at c.in_ok-posts.ensures;
      rows = rw (given, recs) at c.in_ok-rows.ensures;
    }
