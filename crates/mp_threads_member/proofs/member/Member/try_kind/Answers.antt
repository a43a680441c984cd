use Rattle.std.proofs.Common.{Ok, ap}
use Rattle.mp_model.specs.Tables.{table_of}
use Rattle.mp_outline.specs.JobOutline.{outline_of}
use Rattle.mp_threads_member.proofs.Tried.{hindered_then}
use Rattle.mp_threads_member.proofs.member.Member.try_kind.Goals as goal

pub returns-else-made-clause-idle : goal.returns-else-made-clause-idle
returns-else-made-clause-idle g c = λ none.
    let o = outline_of (table_of g.Q.Query.facts g.J.Naming.job) g.J.Naming.job in
    hindered_then o c.args.self.now c.repeat.new.self c.receive_from_all.new.self c.args.kind (c.in_ok-made.ensures.idle (ap Ok c.if-made.false)) (c.in-Ok.ensures.idle none)
