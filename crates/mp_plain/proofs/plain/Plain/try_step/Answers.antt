use Rattle.std.proofs.Common.{◌∷◌, [], subst}
use Rattle.mp_names.specs.Outlines.{OutlineIsSound}
use Rattle.mp_job.specs.Legal.{JobIsLegal}
use Rattle.mp_model.specs.Tables.{table_of}
use Rattle.mp_outline.specs.JobOutline.{outline_of}
use Rattle.mp_outline.proofs.Soundness.{outline_is_sound}
use Rattle.mp_machine.specs.Runs.{NotNow}
use Rattle.mp_plain.specs.Driven.{Driven, LeadsOn}
use Rattle.mp_plain.specs.Kept.{together}
use Rattle.mp_plain.proofs.Glanced.{of_the_first}
use Rattle.mp_plain.proofs.Idling.{idle_leaves, step_idles}
use Rattle.mp_plain.proofs.plain.Plain.try_step.Given as given
use Rattle.mp_plain.proofs.plain.Plain.try_step.Goals as goal

sound : (g : given.Over) → let job = g.J.Naming.job in let q = table_of g.Q.Query.facts job in JobIsLegal q job → OutlineIsSound (outline_of q job)
sound g legal =
    let laws = g.met.Q.Query g.world.𝓛 g.world.𝓜 g.world.𝓡 ((λ s x. x), (λ x. x), (λ x. x), λ x. x) in
    let job = g.J.Naming.job in
    outline_is_sound (table_of g.Q.Query.facts job) (laws.has_stages job.values) (laws.posts_are_later job.values) (laws.later_stages_post_nothing job.values) job legal

pub returns-then-worker-ne0-clause-makes : goal.returns-then-worker-ne0-clause-makes
returns-then-worker-ne0-clause-makes g c =
    let o = outline_of (table_of g.Q.Query.facts g.J.Naming.job) g.J.Naming.job in
    let kept = c.self.invariant in
    let t = together c.self.inside.workers.items c.self.inside.board c.self.inside.post in
    let idle = of_the_first o (sound g kept.legal) t kept.reached c.args.worker c.requires.place.0 c.args.kind (c.is_of_the_first.ensures c.if-is_of_the_first.true) (λ e. c.if-worker-ne0.true e) in
    step_idles o c.args.worker c.args.kind c.args.self.now (subst (λ (u : Driven). LeadsOn o ((c.args.worker, c.args.kind) ∷ []) (NotNow ∷ []) u.state u.state) c.self.view_is idle)

pub returns-then-worker-ne0-clause-leaves : goal.returns-then-worker-ne0-clause-leaves
returns-then-worker-ne0-clause-leaves g c =
    let job = g.J.Naming.job in
    let s = g.S.Sink in
    idle_leaves (table_of g.Q.Query.facts job) job s.written s.faults s.frame c.args.kind c.args.self.now.state c.args.sink.now
