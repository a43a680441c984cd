use Rattle.std.proofs.Common.{sym, subst}
use Rattle.mp_model.specs.Tables.{table_of}
use Rattle.mp_outline.specs.JobOutline.{outline_of}
use Rattle.mp_journal_laws.specs.Telling.{KeptTellFullLog}
use Rattle.mp_threads_crew.proofs.Keeping.{steps_told}
use Rattle.mp_threads_crew.proofs.tallies.steps_in.Goals as goal

pub returns : goal.returns
returns g c =
    let o = outline_of (table_of g.Q.Query.facts g.J.Naming.job) g.J.Naming.job in
    let worker = c.args.worker in
    subst (KeptTellFullLog o worker.number) (sym c.into_steps.ensures)
    (steps_told o worker.number worker.steps (λ kept is. c.steps_are_known.ensures.full kept is c.requires.finished.knows) c.requires.keeps)
