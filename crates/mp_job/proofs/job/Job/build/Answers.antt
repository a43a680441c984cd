use Rattle.std.proofs.Common.{◌≡◌, ◌++◌, ◌∙◌, List, ℕ, ap, arith, drop, length, subst, sym, take}
use Rattle.std.specs.Prelude.{All}
use Rattle.std.specs.List.{flat_map}
use Rattle.mp_model.specs.declared.record.Event.{Event}
use Rattle.mp_model.specs.Ascending.{ascending}
use Rattle.mp_model.specs.Folds.{times_in}
use Rattle.mp_model.specs.Legal.{EventsAreLegal}
use Rattle.mp_model.specs.Stages.{input_records}
use Rattle.mp_names.specs.declared.controls.Control.{Control}
use Rattle.mp_names.specs.declared.controls.First.{First}
use Rattle.mp_opening.specs.Below.{FirstFits, Layout}
use Rattle.mp_shares.specs.Records.{shares_of}
use Rattle.mp_shares.specs.Times.{control_times, post_times_of, times_of}
use Rattle.mp_shares.proofs.Sharing.{written_back}
use Rattle.mp_job.specs.Parts.{HoldsParts, job_in, saved_of, table_in}
use Rattle.mp_job.specs.Times.{opening_times}
use Rattle.mp_job.proofs.Legality.{shape_is_some}
use Rattle.mp_job.proofs.Whole.{opens_as, parts_are_legal, times_opened}
use Rattle.mp_job.proofs.job.Job.build.Goals as goal

pub new-requires-clause-shape : goal.new-requires-clause-shape
new-requires-clause-shape g c =
    let values_of = g.Q.Query.values c.args.source.query in
    let laws = g.met.Q.Query g.world.𝓛 g.world.𝓜 g.world.𝓡 ((λ s x. x), (λ x. x), (λ x. x), λ x. x) in
    let legal = parts_are_legal g.Q.Query.facts g.Q.Query.text_of values_of (laws.texts_tell_cells values_of) c.args.source.stop c.args.inputs.events.items c.args.inputs.controls.items c.args.shape c.args.inputs.firsts.items c.args.source.opening c.requires.shape c.requires.stages c.requires.events c.requires.controls c.requires.firsts c.requires.stop c.requires.opening c.requires.count in
    shape_is_some _ _ (laws.has_stages values_of) legal

pub invariant_of-result : goal.invariant_of-result
invariant_of-result g c =
    let values_of = g.Q.Query.values c.args.source.query in
    let laws = g.met.Q.Query g.world.𝓛 g.world.𝓜 g.world.𝓡 ((λ s x. x), (λ x. x), (λ x. x), λ x. x) in
    let tells = laws.texts_tell_cells values_of in
    let text = g.Q.Query.text_of in
    let stop = c.args.source.stop in
    let opening = c.args.source.opening in
    let saved = saved_of text opening in
    let q = table_in g.Q.Query.facts text values_of stop opening in
    let events = c.args.inputs.events.items in
    let controls = c.args.inputs.controls.items in
    let shape = c.args.shape in
    let gathered = c.in_ok-gathered.gathered in
    let stay : c.gather_all.new.events ≡ events = c.in_ok-gathered.ensures.events ∙ c.deref_mut.ensures.value in
    let all = take c.args.inputs.events.len (c.gather_all.new.events ++ drop (length c.gather_all.new.events) events) in
    let all_events : all ≡ events =
    written_back c.gather_all.new.events events c.args.inputs.events.len (omega (arith, c.args.inputs.events.ok.0)) (ap length stay) ∙ stay
    in
    let firsts = c.args.inputs.firsts.items in
    let job = job_in values_of events controls shape firsts stop saved in
    let legal = parts_are_legal g.Q.Query.facts text values_of tells stop events controls shape firsts opening c.requires.shape c.requires.stages c.requires.events c.requires.controls c.requires.firsts c.requires.stop c.requires.opening c.requires.count in
    let opens = opens_as g.Q.Query.facts text values_of stop shape.bins opening c.requires.opening in
    let wakes = sym (times_opened g.Q.Query.facts text values_of tells stop shape.bins opening c.requires.opening) in
    let layout : c.in_ok-owners.owners ≡ record { shape = shape; firsts = firsts } = c.in_ok-owners.ensures ∙ ap (λ (fs : List First). record { shape = shape; firsts = fs }) c.as_slice.ensures.value in
    let shares_are : gathered.shares.items ≡ shares_of q events shape.workers =
    c.in_ok-gathered.ensures.shares ∙ ap (λ (es : List Event). shares_of q es shape.workers) c.deref_mut.ensures.value
    in
    let times_are : gathered.times.items ≡ times_of q events controls =
    c.in_ok-gathered.ensures.times
    ∙ ap (λ (es : List Event). ascending ((times_in q 0 (input_records q es) ++ control_times c.deref.result.now) ++ opening_times opening)) c.deref_mut.ensures.value
    ∙ ap (λ (cs : List Control). ascending ((times_in q 0 (input_records q events) ++ control_times cs) ++ opening_times opening)) c.deref.ensures.value
    ∙ ap (λ (ws : List ℕ). ascending ((times_in q 0 (input_records q events) ++ control_times controls) ++ ws)) wakes
    in
    let posts_are : gathered.post_times ≡ length (post_times_of q events) =
    c.in_ok-gathered.ensures.posts
    ∙ ap (λ (es : List Event). length (ascending (flat_map (q.posts 0) (input_records q es) ++ opening_times opening))) c.deref_mut.ensures.value
    ∙ ap (λ (ws : List ℕ). length (ascending (flat_map (q.posts 0) (input_records q events) ++ ws))) wakes
    in
    subst (λ (l : Layout). HoldsParts q (job_in values_of all controls l.shape l.firsts stop saved) gathered.shares.items gathered.times.items gathered.post_times opening) (sym layout)
    (subst (λ (es : List Event). HoldsParts q (job_in values_of es controls shape firsts stop saved) gathered.shares.items gathered.times.items gathered.post_times opening) (sym all_events)
    (record { legal = legal; opens = opens; shares_are = shares_are; times_are = times_are; posts_are = posts_are }))

pub new-requires-clause-firsts : goal.new-requires-clause-firsts
new-requires-clause-firsts g c = subst (λ (fs : List First). All (FirstFits c.args.shape) fs) (sym c.as_slice.ensures.value) c.requires.firsts.each

pub gather_all-requires-clause-legal : goal.gather_all-requires-clause-legal
gather_all-requires-clause-legal g c κs within = subst (λ (es : List Event). EventsAreLegal es) (sym c.deref_mut.ensures.value) c.requires.events

pub gather_all-requires-clause-some_worker : goal.gather_all-requires-clause-some_worker
gather_all-requires-clause-some_worker g c κs within = c.requires.shape.some_worker

pub returns : goal.returns
returns g c =
    let values_of = g.Q.Query.values c.args.source.query in
    let stop = c.args.source.stop in
    let saved = saved_of g.Q.Query.text_of c.args.source.opening in
    let events = c.args.inputs.events.items in
    let controls = c.args.inputs.controls.items in
    let shape = c.args.shape in
    let firsts = c.args.inputs.firsts.items in
    let stay : c.gather_all.new.events ≡ events = c.in_ok-gathered.ensures.events ∙ c.deref_mut.ensures.value in
    let all = take c.args.inputs.events.len (c.gather_all.new.events ++ drop (length c.gather_all.new.events) events) in
    let all_events : all ≡ events =
    written_back c.gather_all.new.events events c.args.inputs.events.len (omega (arith, c.args.inputs.events.ok.0)) (ap length stay) ∙ stay
    in
    let layout : c.in_ok-owners.owners ≡ record { shape = shape; firsts = firsts } = c.in_ok-owners.ensures ∙ ap (λ (fs : List First). record { shape = shape; firsts = fs }) c.as_slice.ensures.value in
    ap (λ (l : Layout). job_in values_of all controls l.shape l.firsts stop saved) layout ∙ ap (λ (es : List Event). job_in values_of es controls shape firsts stop saved) all_events
