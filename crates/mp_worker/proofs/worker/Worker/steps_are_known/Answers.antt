use Rattle.std.proofs.Common.{option_map}
use Rattle.mp_outline.specs.JobOutline.{outline_of}
use Rattle.mp_model.specs.Tables.{table_of}
use Rattle.mp_worker.specs.Keeping.{with_steps}
use Rattle.mp_worker.proofs.OwnLog.{full_if_over}
use Rattle.mp_worker.proofs.Telling.{told_by}
use Rattle.mp_worker.proofs.worker.Worker.steps_are_known.Goals as goal

pub returns-clause-full : goal.returns-clause-full
returns-clause-full g c =
    let o = outline_of (table_of g.Q.Query.facts g.J.Naming.job) g.J.Naming.job in
    let known = c.log_is_known.ensures in
    let s = with_steps (option_map (λ kept. kept.items) c.self.inside.kept) c.self.inside.parts.worker in
    rw (← c.self.view_is)
    (λ kept is ends. c.full_logs_are_told.ensures o s.number s.log kept known.sound known.inside known.legal (full_if_over o known.sound s known.inside known.legal known.done ends) (told_by s kept is c.self.invariant))
