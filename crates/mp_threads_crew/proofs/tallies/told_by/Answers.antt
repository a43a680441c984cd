use Rattle.std.proofs.Common.{subst, sym}
use Rattle.mp_model.specs.Tables.{table_of}
use Rattle.mp_outline.specs.JobOutline.{outline_of}
use Rattle.mp_threads_crew.specs.Crews.{AreFinished}
use Rattle.mp_threads_crew.proofs.tallies.told_by.Goals as goal

pub tallies_of-requires-clause-finished : goal.tallies_of-requires-clause-finished
tallies_of-requires-clause-finished g c κs within =
    let o = outline_of (table_of g.Q.Query.facts g.J.Naming.job) g.J.Naming.job in
    subst (AreFinished o) (sym c.as_slice.ensures.value) c.requires.finished.finished
