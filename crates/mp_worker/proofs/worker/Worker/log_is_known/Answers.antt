use Rattle.mp_outline.specs.JobOutline.{outline_of}
use Rattle.mp_worker.proofs.OwnLog.{full_if_over, legal_with_time}
use Rattle.mp_worker.proofs.worker.Worker.log_is_known.Goals as goal
use Rattle.mp_model.specs.Tables.{table_of}

pub returns-clause-legal : goal.returns-clause-legal
returns-clause-legal g c = rw (← c.self.view_is) c.log_is_known.ensures.legal

pub returns-clause-writing : goal.returns-clause-writing
returns-clause-writing g c =
    let o = outline_of (table_of g.Q.Query.facts g.J.Naming.job) g.J.Naming.job in
    let known = c.log_is_known.ensures in
    rw (← c.self.view_is) (legal_with_time o known.sound _ known.inside known.legal known.done)

pub returns-clause-full : goal.returns-clause-full
returns-clause-full g c =
    let o = outline_of (table_of g.Q.Query.facts g.J.Naming.job) g.J.Naming.job in
    let known = c.log_is_known.ensures in
    rw (← c.self.view_is) (full_if_over o known.sound _ known.inside known.legal known.done)
