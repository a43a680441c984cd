use Rattle.std.proofs.Common.{◌≡◌, ◌≤◌, ◌&&◌, ◌∙◌, List, All, None, Some, ap, arith, length, nat_le, refl, subst, sym, true}
use Rattle.std.proofs.lemmas.Result.{IfOk-weaker}
use Rattle.mp_names.specs.declared.controls.Control.{Control}
use Rattle.mp_names.specs.Limits.{most_bytes}
use Rattle.mp_opening.specs.Checkpoints.{CheckpointOf, saved_in}
use Rattle.mp_opening.specs.Openings.{OpeningOf}
use Rattle.mp_job.specs.Legal.{ControlsFit}
use Rattle.mp_job.specs.Parts.{OpeningFits, job_in}
use Rattle.mp_job.proofs.Before.{later, later_are, later_fit}
use Rattle.mp_job.proofs.job.Job.resume.Goals as goal

pub build-requires-clause-controls : goal.build-requires-clause-controls
build-requires-clause-controls g c κs within =
    let time = c.args.from.time in
    let controls = c.args.inputs.controls.items in
    let kept : c.since.result.items ≡ later time controls = c.since.ensures ∙ ap (λ (v : CheckpointOf g.row.Q-Cell.Denot). later v.time controls) c.from.view_is in
    subst (λ (cs : List Control). ControlsFit c.args.shape cs) (sym kept) (later_fit c.args.shape time controls c.requires.controls)

pub build-requires-clause-count : goal.build-requires-clause-count
build-requires-clause-count g c κs within =
    let time = c.args.from.time in
    let controls = c.args.inputs.controls.items in
    let kept : c.since.result.items ≡ later time controls = c.since.ensures ∙ ap (λ (v : CheckpointOf g.row.Q-Cell.Denot). later v.time controls) c.from.view_is in
    let since = subst (λ (cs : List Control). All (λ x. (nat_le time x.time && true) ≡ true) cs) (sym kept) (later_are time controls) in
    subst (λ (o : OpeningOf g.row.Q-Cell.Denot). All (λ x. (nat_le o.from.time x.time && true) ≡ true) c.since.result.items) (sym c.in_ok-new.ensures) since

pub returns : goal.returns
returns g c =
    let values = g.Q.Query.values c.args.query in
    let events = c.args.inputs.events.items in
    let firsts = c.args.inputs.firsts.items in
    let text = g.Q.Query.text_of in
    let opening = c.in_ok-new.field-0 in
    let controls = c.args.inputs.controls.items in
    let kept : c.since.result.items ≡ later c.args.from.time controls = c.since.ensures ∙ ap (λ (v : CheckpointOf g.row.Q-Cell.Denot). later v.time controls) c.from.view_is in
    IfOk-weaker c.build.result _ _
    (λ job made. made
    ∙ ap (λ (cs : List Control). job_in values events cs c.args.shape firsts None (Some (saved_in text opening.from))) kept
    ∙ ap (λ (o : OpeningOf g.row.Q-Cell.Denot). job_in values events (later c.args.from.time controls) c.args.shape firsts None (Some (saved_in text o.from))) c.in_ok-new.ensures)
    c.build.ensures

pub build-requires-clause-opening : goal.build-requires-clause-opening
build-requires-clause-opening g c κs within =
    let few : length c.args.from.wakes ≤ most_bytes = omega (arith, c.if-len-gt-MOST_WAKES.false, c.len.ensures, ap (λ (v : CheckpointOf g.row.Q-Cell.Denot). length v.wakes) c.from.view_is) in
    subst (λ (o : OpeningOf g.row.Q-Cell.Denot). OpeningFits (g.Q.Query.facts (g.Q.Query.values c.args.query)) c.args.shape.bins (Some o)) (sym c.in_ok-new.ensures) (c.requires.saved, refl, few)
