use Rattle.mp_model.specs.Tables.{table_of}
use Rattle.mp_outline.proofs.Soundness.{outline_is_sound}
use Rattle.mp_outline.proofs.laws.outlines_are_sound.Goals as goal

pub returns : goal.returns
returns g c = λ job legal.
    let laws = g.met.Q.Query g.world.𝓛 g.world.𝓜 g.world.𝓡 ((λ s x. x), (λ x. x), (λ x. x), λ x. x) in
    outline_is_sound (table_of g.Q.Query.facts job) (laws.has_stages job.values) (laws.posts_are_later job.values) (laws.later_stages_post_nothing job.values) job legal
