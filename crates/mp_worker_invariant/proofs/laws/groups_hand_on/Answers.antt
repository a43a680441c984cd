use Rattle.mp_outline.proofs.Soundness.{outline_is_sound}
use Rattle.mp_worker_invariant.proofs.Handed.{groups_hand_on}
use Rattle.mp_worker_invariant.proofs.laws.groups_hand_on.Goals as goal
use Rattle.mp_model.specs.Tables.{table_of}

pub returns : goal.returns
returns g c = λ job w log j t k legal.
    let laws = g.met.Q.Query g.world.𝓛 g.world.𝓜 g.world.𝓡 ((λ s x. x), (λ x. x), (λ x. x), λ x. x) in
    let q = table_of g.Q.Query.facts job in
    let nothing = laws.later_stages_post_nothing job.values in
    let sound = outline_is_sound q (laws.has_stages job.values) (laws.posts_are_later job.values) nothing job legal in
    groups_hand_on q nothing job legal sound w log j t k
