use Rattle.std.proofs.Common.{map, subst}
use Rattle.mp_model.specs.Tables.{table_of}
use Rattle.mp_outline.specs.JobOutline.{outline_of}
use Rattle.mp_threads_crew.specs.Crews.{AreFinishedKeeping}
use Rattle.mp_threads_crew.proofs.Keeping.{kept_as_asked, none_as_asked}
use Rattle.mp_threads_crew.proofs.tallies.kept_by.Goals as goal

pub steps_of-requires-clause-finished : goal.steps_of-requires-clause-finished
steps_of-requires-clause-finished g c κs within =
    let o = outline_of (table_of g.Q.Query.facts g.J.Naming.job) g.J.Naming.job in
    subst (λ keeps. AreFinishedKeeping o keeps c.args.workers.items) c.if-keeps.true c.requires.finished

pub returns-then-keeps : goal.returns-then-keeps
returns-then-keeps g c =
    let o = outline_of (table_of g.Q.Query.facts g.J.Naming.job) g.J.Naming.job in
    kept_as_asked c.steps_of.result (λ lists. map (λ v. v.items) lists.items) o c.args.keeps c.if-keeps.true c.steps_of.ensures

pub returns-else-keeps : goal.returns-else-keeps
returns-else-keeps g c =
    let o = outline_of (table_of g.Q.Query.facts g.J.Naming.job) g.J.Naming.job in
    none_as_asked o (λ v. v.items) c.args.keeps c.new.result.items c.if-keeps.false c.new.ensures.items
