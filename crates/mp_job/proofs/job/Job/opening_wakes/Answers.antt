use Rattle.mp_job.proofs.Opened.{wakes_opened}
use Rattle.mp_job.proofs.job.Job.opening_wakes.Goals as goal

pub returns-in-Some : goal.returns-in-Some
returns-in-Some g c =
    let inside = c.self.inside in
    rw
    (← c.self.view_is)
    (wakes_opened g.Q.Query.facts g.Q.Query.text_of (g.Q.Query.values inside.source.query) inside.source.stop inside.source.opening c.in-Some.opening c.in-Some.is inside.owners.shape.bins c.self.invariant.opens c.args.stage c.args.bin c.wakes_of.result.now c.wakes_of.ensures)
