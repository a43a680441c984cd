use Rattle.std.proofs.Common.{◌∙◌, arith}
use Rattle.std.proofs.lemmas.Grind.{common_steps}
use Rattle.mp_job.specs.Parts.{table_in}
use Rattle.mp_shares.proofs.Sharing.{length-shares, share-at}
use Rattle.mp_job.proofs.job.Job.share.Goals as goal

pub index-requires : goal.index-requires
index-requires g c =
    let q = table_in g.Q.Query.facts g.Q.Query.text_of (g.Q.Query.values c.self.inside.source.query) c.self.inside.source.stop c.self.inside.source.opening in
    let there = rw (← c.self.view_is) at c.requires in
    let count = length-shares q c.self.inside.events.items c.self.inside.shares.items c.self.inside.owners.shape.workers c.self.invariant.shares_are in
    grind (arith, common_steps)

pub returns : goal.returns
returns g c =
    let q = table_in g.Q.Query.facts g.Q.Query.text_of (g.Q.Query.values c.self.inside.source.query) c.self.inside.source.stop c.self.inside.source.opening in
    let there = rw (← c.self.view_is) at c.requires in
    rw
    (← c.self.view_is)
    (c.as_slice.ensures ∙ c.index.ensures ∙ share-at q c.self.inside.events.items c.self.inside.shares.items c.self.inside.owners.shape.workers c.args.worker c.index.result.now c.self.invariant.shares_are there)
