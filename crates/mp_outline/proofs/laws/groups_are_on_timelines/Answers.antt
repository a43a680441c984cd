use Rattle.mp_model.specs.Tables.{table_of}
use Rattle.mp_outline.proofs.Groups.{timelines_rise}
use Rattle.mp_outline.proofs.Soundness.{outline_is_sound}
use Rattle.mp_outline.proofs.Timelines.{groups_are_on, wakes_are}
use Rattle.mp_outline.proofs.laws.groups_are_on_timelines.Goals as goal

pub returns-clause-groups : goal.returns-clause-groups
returns-clause-groups g c = λ job legal.
    let laws = g.met.Q.Query g.world.𝓛 g.world.𝓜 g.world.𝓡 ((λ s x. x), (λ x. x), (λ x. x), λ x. x) in
    let q = table_of g.Q.Query.facts job in
    let nothing = laws.later_stages_post_nothing job.values in
    groups_are_on q nothing job (outline_is_sound q (laws.has_stages job.values) (laws.posts_are_later job.values) nothing job legal)

pub returns-clause-wakes : goal.returns-clause-wakes
returns-clause-wakes g c = λ job legal.
    let laws = g.met.Q.Query g.world.𝓛 g.world.𝓜 g.world.𝓡 ((λ s x. x), (λ x. x), (λ x. x), λ x. x) in
    wakes_are (table_of g.Q.Query.facts job) (laws.later_stages_post_nothing job.values) job

pub returns-clause-timelines : goal.returns-clause-timelines
returns-clause-timelines g c = λ job. timelines_rise (table_of g.Q.Query.facts job) job
