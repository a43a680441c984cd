use Rattle.std.proofs.Common.{ap, ◌∙◌}
use Rattle.mp_names.specs.declared.controls.Shape.{Shape}
use Rattle.mp_model.specs.Tables.{table_of}
use Rattle.mp_job.proofs.Runs.{run_controls, run_is_legal, run_shape}
use Rattle.mp_outline.proofs.Soundness.{outline_is_sound}
use Rattle.mp_rows.proofs.EmptyLog.{opening_sums}
use Rattle.mp_rows.proofs.Wakes.{run_wakes}
use Rattle.mp_rows.proofs.opening.opening_entries.Goals as goal

pub returns : goal.returns
returns g c = λ run of.
    let laws = g.met.Q.Query g.world.𝓛 g.world.𝓜 g.world.𝓡 ((λ s x. x), (λ x. x), (λ x. x), λ x. x) in
    let its = c.args.job.now in
    let facts = g.Q.Query.facts in
    let q = table_of facts run in
    let legal = run_is_legal its run of facts c.shape-shape.ensures.legal in
    let sound = outline_is_sound q (laws.has_stages run.values) (laws.posts_are_later run.values) (laws.later_stages_post_nothing run.values) run legal in
    let workers = ap (λ (s : Shape). s.workers) (c.shape-shape.ensures.shape ∙ run_shape its run of) in
    let added = c.in_ok-add_wakes.ensures in
    let own = run_wakes facts its run of c.args.worker added.0 added.1 in
    opening_sums q run c.args.worker sound legal added.0 own _ _ _ _ _ workers (c.controls.ensures ∙ run_controls its run of) c.new-entries.ensures.items c.in_ok-add_controls.ensures added.2
