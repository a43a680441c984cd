use Rattle.mp_model.specs.Tables.{table_of}
use Rattle.mp_outline.proofs.Soundness.{outline_is_sound}
use Rattle.mp_host_laws.proofs.LastStates.{last_states_are_held}
use Rattle.mp_host_laws.proofs.last.last_states_are_held.Goals as goal

pub returns : goal.returns
returns g c = λ job legal.
    let laws = g.met.Q.Query g.world.𝓛 g.world.𝓜 g.world.𝓡 ((λ s x. x), (λ x. x), (λ x. x), λ x. x) in
    let q = table_of g.Q.Query.facts job in
    let later = laws.posts_are_later job.values in
    let nothing = laws.later_stages_post_nothing job.values in
    last_states_are_held q job legal later nothing (outline_is_sound q (laws.has_stages job.values) later nothing job legal)
