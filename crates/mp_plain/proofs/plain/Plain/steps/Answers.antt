-- A run of the machine made as many steps.
use Rattle.mp_outline.specs.JobOutline.{outline_of}
use Rattle.mp_outline.proofs.Soundness.{outline_is_sound}
use Rattle.mp_plain.specs.Kept.{together}
use Rattle.mp_plain.proofs.Made.{made_few}
use Rattle.mp_plain.proofs.plain.Plain.steps.Goals as goal
use Rattle.mp_model.specs.Tables.{table_of}

pub returns-clause-few : goal.returns-clause-few
returns-clause-few g c =
    let laws = g.met.Q.Query g.world.𝓛 g.world.𝓜 g.world.𝓡 ((λ s x. x), (λ x. x), (λ x. x), λ x. x) in
    let job = g.J.Naming.job in
    let q = table_of g.Q.Query.facts job in
    let sound = outline_is_sound q (laws.has_stages job.values) (laws.posts_are_later job.values) (laws.later_stages_post_nothing job.values) job c.self.invariant.legal in
    made_few (outline_of q job) c.self.inside.made (together c.self.inside.workers.items c.self.inside.board c.self.inside.post) sound c.self.invariant.counted
