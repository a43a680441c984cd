-- The posts of the record of a name.
use Rattle.mp_model.specs.Tables.{table_of}
use Rattle.mp_outline.specs.JobOutline.{posts_of}
use Rattle.mp_job_lists.proofs.Stages.{posts_at}
use Rattle.mp_job_lists.proofs.lists.JobListsOutlineLists.posts.Goals as goal

pub returns : goal.returns
returns g c =
    let laws = g.met.Q.Query in
    let job = g.J.Naming.job in
    let q = table_of g.Q.Query.facts job in
    λ x there. c.at.ensures (posts_of q job.events x) (rw c.self.invariant.posts_are (posts_at q (laws.later_stages_post_nothing job.values) job c.args.place x there))
