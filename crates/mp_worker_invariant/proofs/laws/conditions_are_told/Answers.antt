use Rattle.mp_outline.proofs.Soundness.{outline_is_sound}
use Rattle.mp_worker_invariant.proofs.Agreeing.{conditions_agree}
use Rattle.mp_worker_invariant.proofs.Conditions.{conditions_are_told}
use Rattle.mp_worker_invariant.proofs.laws.conditions_are_told.Goals as goal
use Rattle.mp_model.specs.Tables.{table_of}

pub returns-clause-told : goal.returns-clause-told
returns-clause-told g c = λ job p legal parts.
    let laws = g.met.Q.Query g.world.𝓛 g.world.𝓜 g.world.𝓡 ((λ s x. x), (λ x. x), (λ x. x), λ x. x) in
    let q = table_of g.Q.Query.facts job in
    let nothing = laws.later_stages_post_nothing job.values in
    let sound = outline_is_sound q (laws.has_stages job.values) (laws.posts_are_later job.values) nothing job legal in
    conditions_are_told q job sound p parts

pub returns-clause-agree : goal.returns-clause-agree
returns-clause-agree g c = conditions_agree
