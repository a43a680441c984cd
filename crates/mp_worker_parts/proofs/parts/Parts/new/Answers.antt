use Rattle.std.proofs.Common.{◌≡◌, ap, refl, sym, ◌∙◌}
use Rattle.mp_names.specs.declared.controls.Shape.{Shape}
use Rattle.mp_job.proofs.Runs.{run_is_legal, run_shape}
use Rattle.mp_outline.specs.JobOutline.{layout_of}
use Rattle.mp_outline.proofs.Soundness.{outline_is_sound}
use Rattle.mp_model.specs.Facts.{JobFacts}
use Rattle.mp_model.specs.Tables.{table_of}
use Rattle.mp_rows.specs.WorkerLog.{WorkerLog}
use Rattle.mp_worker_parts.proofs.Begun.{new_for_run, parts_at_first, some_of_each}
use Rattle.mp_worker_parts.proofs.parts.Parts.new.Goals as goal

pub with_firsts-requires-clause-shape : goal.with_firsts-requires-clause-shape
with_firsts-requires-clause-shape g c =
    let laws = g.met.Q.Query g.world.𝓛 g.world.𝓜 g.world.𝓡 ((λ s x. x), (λ x. x), (λ x. x), λ x. x) in
    let job = g.J.Naming.job in
    let legal = run_is_legal c.args.job.now g.J.Naming.job c.requires.job g.Q.Query.facts c.shape-shape.ensures.legal in
    let sound = outline_is_sound (table_of g.Q.Query.facts job) (laws.has_stages job.values) (laws.posts_are_later job.values) (laws.later_stages_post_nothing job.values) job legal in
    rw (c.shape-shape.ensures.shape ∙ run_shape c.args.job.now job c.requires.job) (some_of_each (table_of g.Q.Query.facts job) job sound)

pub with_firsts-requires-clause-firsts : goal.with_firsts-requires-clause-firsts
with_firsts-requires-clause-firsts g c =
    let legal = run_is_legal c.args.job.now g.J.Naming.job c.requires.job g.Q.Query.facts c.shape-shape.ensures.legal in
    let firsts = c.firsts.ensures ∙ ap (λ (f : JobFacts). f.firsts) c.requires.job in
    rw (firsts, c.shape-shape.ensures.shape ∙ run_shape c.args.job.now g.J.Naming.job c.requires.job) legal.firsts.each

pub invariant_of-parts-inside : goal.invariant_of-parts-inside
invariant_of-parts-inside g c = (c.open-log.ensures.posted ∙ sym (ap (λ (l : WorkerLog). l.log) c.of-posted.ensures ∙ c.open-log.ensures.log), tt)

pub invariant_of-parts : goal.invariant_of-parts
invariant_of-parts g c =
    let laws = g.met.Q.Query g.world.𝓛 g.world.𝓜 g.world.𝓡 ((λ s x. x), (λ x. x), (λ x. x), λ x. x) in
    let job = g.J.Naming.job in
    let q = table_of g.Q.Query.facts job in
    let legal = run_is_legal c.args.job.now g.J.Naming.job c.requires.job g.Q.Query.facts c.shape-shape.ensures.legal in
    let sound = outline_is_sound q (laws.has_stages job.values) (laws.posts_are_later job.values) (laws.later_stages_post_nothing job.values) job legal in
    let shape = c.shape-shape.ensures.shape ∙ run_shape c.args.job.now job c.requires.job in
    let firsts = c.firsts.ensures ∙ ap (λ (f : JobFacts). f.firsts) c.requires.job in
    let log = c.open-log.ensures in
    let owners = c.in_ok-owners.ensures in
    let layout : c.in_ok-owners.owners.layout ≡ layout_of job = rw (owners.layout, shape, firsts) refl in
    let new = λ (first : c.args.number ≡ 0). new_for_run c.args.job.now job c.requires.job c.args.paced c.requires.pace c.in_ok-controller.controller (c.in_ok-controller.ensures first) in
    let routers = c.in_ok-routers.ensures in
    let hosts = c.in_ok-hosts.ensures in
    let movers = c.in_ok-movers.ensures in
    let parts = parts_at_first q job sound c.args.number c.args.seen c.requires.number c.requires.opening c.open-log.result _ c.in_ok-owners.owners c.in_ok-controller.controller _ _ _ c.new.result c.new-2.result log.worker log.log (rw c.of-posted.ensures log.log)
    layout owners.none_noted new (routers.all ∙ ap (λ (s : Shape). s.stages) shape) (routers.each c.args.number) hosts.all hosts.each movers.all movers.each c.new.ensures c.new-2.ensures.rows in
    record {
      run = c.requires.job;
      legal = legal;
      rows = c.requires.rows;
      sound = sound;
      parts = parts;
      hands_on = record { later = laws.posts_are_later job.values; nothing = laws.later_stages_post_nothing job.values };
    }
