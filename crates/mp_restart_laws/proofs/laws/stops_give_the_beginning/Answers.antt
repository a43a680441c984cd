use Rattle.mp_restart_laws.proofs.OfJobs.{job_stops}
use Rattle.mp_restart_laws.proofs.laws.stops_give_the_beginning.Goals as goal

pub returns : goal.returns
returns g c = λ job t legal until from.
    let laws = g.met.Q.Query g.world.𝓛 g.world.𝓜 g.world.𝓡 ((λ s x. x), (λ x. x), (λ x. x), λ x. x) in
    job_stops g.Q.Query.facts job (laws.begins_fresh job.values) (laws.posts_are_later job.values) (laws.later_stages_post_nothing job.values) legal t until from
