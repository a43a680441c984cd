use Rattle.std.proofs.lemmas.Result.{IfOk-weaker}
use Rattle.mp_job.proofs.Opened.{cells_opened}
use Rattle.mp_job.proofs.job.Job.opening_cells.Goals as goal

pub returns-in-Some : goal.returns-in-Some
returns-in-Some g c =
    let inside = c.self.inside in
    let values = g.Q.Query.values inside.source.query in
    let laws = g.met.Q.Query g.world.𝓛 g.world.𝓜 g.world.𝓡 ((λ s x. x), (λ x. x), (λ x. x), λ x. x) in
    rw
    (← c.self.view_is)
    (IfOk-weaker c.copy_cells.result _ _
    (λ cells are. cells_opened g.Q.Query.facts g.Q.Query.text_of values inside.source.stop inside.source.opening c.in-Some.opening c.in-Some.is inside.owners.shape.bins c.self.invariant.opens c.args.stage c.args.bin (laws.texts_tell_cells values) cells.items are)
    c.copy_cells.ensures)
