use Rattle.mp_job.proofs.Runs.{run_is_legal}
use Rattle.mp_model.specs.Tables.{table_of}
use Rattle.mp_outline.proofs.Soundness.{outline_is_sound}
use Rattle.mp_threads_crew.proofs.Tallied.{told_where_full}
use Rattle.mp_threads_crew.proofs.tallies.tally_of.Goals as goal

pub returns : goal.returns
returns g c =
    let laws = g.met.Q.Query g.world.𝓛 g.world.𝓜 g.world.𝓡 ((λ s x. x), (λ x. x), (λ x. x), λ x. x) in
    let job = g.J.Naming.job in
    let q = table_of g.Q.Query.facts job in
    let legal = run_is_legal _ _ c.requires.job g.Q.Query.facts c.shape.ensures.legal in
    let sound = outline_is_sound q (laws.has_stages job.values) (laws.posts_are_later job.values) (laws.later_stages_post_nothing job.values) job legal in
    let worker = c.args.worker.now in
    let told = c.tally.ensures in
    told_where_full q job sound worker.number worker.log c.tally.result c.log_is_known.ensures.legal (c.log_is_known.ensures.full c.requires.finished.knows) told.groups told.moved told.keys
