-- What the workers have at the end is what the events leave.
use Rattle.std.proofs.Common.{subst}
use Rattle.mp_job.specs.Legal.{JobIsLegal}
use Rattle.mp_model.specs.Facts.{JobFacts}
use Rattle.mp_model.specs.Tables.{table_of}
use Rattle.mp_command.proofs.Left.{left_there}
use Rattle.mp_command.proofs.saving.left_at.Goals as goal

pub collect-requires-clause-legal : goal.collect-requires-clause-legal
collect-requires-clause-legal g c κs within =
    subst (λ (job : JobFacts). JobIsLegal (table_of g.Q.Query.facts job) job) c.requires.job c.shape.ensures.legal

pub returns-clause-left : goal.returns-clause-left
returns-clause-left g c =
    let laws = g.met.Q.Query g.world.𝓛 g.world.𝓜 g.world.𝓡 ((λ s x. x), (λ x. x), (λ x. x), λ x. x) in
    let job = g.J.Naming.job in
    let legal = subst (λ (j : JobFacts). JobIsLegal (table_of g.Q.Query.facts j) j) c.requires.job c.shape.ensures.legal in
    left_there g.Q.Query.facts job (laws.begins_fresh job.values) (laws.posts_are_later job.values) (laws.later_stages_post_nothing job.values) legal.events c.args.time c.requires.stops c.requires.fresh
    c.collect.result c.collect.ensures.time c.collect.ensures.left c.collect.ensures.order

pub returns-clause-fits : goal.returns-clause-fits
returns-clause-fits g c = c.collect.ensures.fits c.requires.plain
