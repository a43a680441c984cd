use Rattle.std.proofs.Common.{subst}
use Rattle.mp_outline.specs.JobOutline.{outline_of}
use Rattle.mp_outline.proofs.Soundness.{outline_is_sound}
use Rattle.mp_plain.specs.Driven.{AreReached, Driven}
use Rattle.mp_plain.proofs.Keeping.{keep_pace}
use Rattle.mp_plain.proofs.plain.Plain.running_moves_are_paced.Goals as goal
use Rattle.mp_model.specs.Tables.{table_of}

pub returns : goal.returns
returns g c =
    let laws = g.met.Q.Query g.world.𝓛 g.world.𝓜 g.world.𝓡 ((λ s x. x), (λ x. x), (λ x. x), λ x. x) in
    let job = g.J.Naming.job in
    let q = table_of g.Q.Query.facts job in
    let sound = outline_is_sound q (laws.has_stages job.values) (laws.posts_are_later job.values) (laws.later_stages_post_nothing job.values) job c.self.invariant.legal in
    keep_pace (outline_of q job) sound c.args.self.now.state (subst (λ (u : Driven). AreReached (outline_of q job) u.state) c.self.view_is c.self.invariant.reached)
