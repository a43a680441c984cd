-- What the invariant says of the job and of the workers.
use Rattle.std.proofs.Common.{◌≤◌, ◌∙◌, ap, subst, sym}
use Rattle.mp_names.specs.declared.controls.Shape.{Shape}
use Rattle.mp_names.specs.Limits.{most_workers}
use Rattle.mp_model.specs.Facts.{JobFacts}
use Rattle.mp_model.specs.Tables.{table_of}
use Rattle.mp_outline.specs.JobOutline.{outline_of}
use Rattle.mp_outline.proofs.Soundness.{outline_is_sound}
use Rattle.mp_plain.specs.Driven.{AreReached, Driven}
use Rattle.mp_plain.proofs.plain.Plain.shape.Goals as goal

pub returns-clause-shape : goal.returns-clause-shape
returns-clause-shape g c = c.shape.ensures.shape ∙ ap (λ (job : JobFacts). job.shape) c.self.invariant.run

pub returns-clause-few : goal.returns-clause-few
returns-clause-few g c = subst (λ (s : Shape). s.workers ≤ most_workers) (sym c.shape.ensures.shape) c.shape.ensures.legal.shape.few_workers

pub returns-clause-sound : goal.returns-clause-sound
returns-clause-sound g c =
    let laws = g.met.Q.Query g.world.𝓛 g.world.𝓜 g.world.𝓡 ((λ s x. x), (λ x. x), (λ x. x), λ x. x) in
    let job = g.J.Naming.job in
    outline_is_sound (table_of g.Q.Query.facts job) (laws.has_stages job.values) (laws.posts_are_later job.values) (laws.later_stages_post_nothing job.values) job c.self.invariant.legal

pub returns-clause-reached : goal.returns-clause-reached
returns-clause-reached g c =
    let o = outline_of (table_of g.Q.Query.facts g.J.Naming.job) g.J.Naming.job in
    subst (λ (u : Driven). AreReached o u.state) c.self.view_is c.self.invariant.reached
