use Rattle.mp_outline.proofs.Soundness.{outline_is_sound}
use Rattle.mp_host_laws.proofs.Coming.{packets_are_held}
use Rattle.mp_host_laws.proofs.MovingTold.{coming_are_told}
use Rattle.mp_host_laws.proofs.laws.packets_are_held.Goals as goal
use Rattle.mp_model.specs.Tables.{table_of}

pub returns-clause-held : goal.returns-clause-held
returns-clause-held g c = λ job legal. packets_are_held (table_of g.Q.Query.facts job) job

pub returns-clause-told : goal.returns-clause-told
returns-clause-told g c = λ job legal.
    let laws = g.met.Q.Query g.world.𝓛 g.world.𝓜 g.world.𝓡 ((λ s x. x), (λ x. x), (λ x. x), λ x. x) in
    let q = table_of g.Q.Query.facts job in
    coming_are_told q job (outline_is_sound q (laws.has_stages job.values) (laws.posts_are_later job.values) (laws.later_stages_post_nothing job.values) job legal)
