use Rattle.mp_restart_laws.proofs.OfJobs.{answer_goes_on, job_goes_on, two_jobs}
use Rattle.mp_restart_laws.proofs.laws.restarts_give_the_rest.Goals as goal

pub returns-clause-rest : goal.returns-clause-rest
returns-clause-rest g c = λ job saved legal on says.
    let laws = g.met.Q.Query g.world.𝓛 g.world.𝓜 g.world.𝓡 ((λ s x. x), (λ x. x), (λ x. x), λ x. x) in
    job_goes_on g.Q.Query.facts job (laws.begins_fresh job.values) (laws.posts_are_later job.values) (laws.later_stages_post_nothing job.values) legal (laws.has_stages job.values).0 saved on says

pub returns-clause-all : goal.returns-clause-all
returns-clause-all g c = λ job saved legal on says.
    let laws = g.met.Q.Query g.world.𝓛 g.world.𝓜 g.world.𝓡 ((λ s x. x), (λ x. x), (λ x. x), λ x. x) in
    answer_goes_on g.Q.Query.facts job (laws.begins_fresh job.values) (laws.posts_are_later job.values) (laws.later_stages_post_nothing job.values) legal (laws.has_stages job.values).0 saved on says

pub returns-clause-both : goal.returns-clause-both
returns-clause-both g c = λ first second saved legal are says.
    let laws = g.met.Q.Query g.world.𝓛 g.world.𝓜 g.world.𝓡 ((λ s x. x), (λ x. x), (λ x. x), λ x. x) in
    two_jobs g.Q.Query.facts second (laws.begins_fresh second.values) (laws.posts_are_later second.values) (laws.later_stages_post_nothing second.values) legal (laws.has_stages second.values).0 saved first are says
