use Rattle.mp_threads_member.proofs.Driven.{answer_written, goes_further}
use Rattle.mp_threads_member.proofs.member.Member.drive.Goals as goal
use Rattle.mp_model.specs.Tables.{table_of}

pub returns-in-Ok-Over-clause-answer : goal.returns-in-Ok-Over-clause-answer
returns-in-Ok-Over-clause-answer g c = λ zeroth before had.
    let job = g.J.Naming.job in
    let q = table_of g.Q.Query.facts job in
    let s = g.S.Sink in
    let on = goes_further q job s.written s.faults s.frame c.args.self.now c.loop.self c.turn.new.self c.args.sink.now c.loop.sink c.turn.new.sink c.loop.invariant c.in-Ok-Over.ensures.drives in
    answer_written q job s.written s.faults s.frame c.args.self.now c.turn.new.self c.args.sink.now c.turn.new.sink on zeroth (c.in-Ok-Over.ensures.finished cc).full before had
