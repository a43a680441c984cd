use Rattle.mp_outline.proofs.Soundness.{outline_is_sound}
use Rattle.mp_host_laws.proofs.Counted.{waiting_are_counted}
use Rattle.mp_host_laws.proofs.Least.{first_is_least}
use Rattle.mp_host_laws.proofs.laws.waiting_groups_are_told.Goals as goal
use Rattle.mp_model.specs.Tables.{table_of}

pub returns-clause-first : goal.returns-clause-first
returns-clause-first g c = λ job legal.
    let laws = g.met.Q.Query g.world.𝓛 g.world.𝓜 g.world.𝓡 ((λ s x. x), (λ x. x), (λ x. x), λ x. x) in
    let q = table_of g.Q.Query.facts job in
    first_is_least q job (outline_is_sound q (laws.has_stages job.values) (laws.posts_are_later job.values) (laws.later_stages_post_nothing job.values) job legal)

pub returns-clause-counted : goal.returns-clause-counted
returns-clause-counted g c = λ job legal.
    let laws = g.met.Q.Query g.world.𝓛 g.world.𝓜 g.world.𝓡 ((λ s x. x), (λ x. x), (λ x. x), λ x. x) in
    let q = table_of g.Q.Query.facts job in
    waiting_are_counted q job (outline_is_sound q (laws.has_stages job.values) (laws.posts_are_later job.values) (laws.later_stages_post_nothing job.values) job legal)
