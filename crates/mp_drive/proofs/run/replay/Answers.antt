-- A run begins with nothing written, so what stands in the sink at its end is what the schedule wrote.
use Rattle.std.proofs.Common.{refl}
use Rattle.std.proofs.lemmas.Result.{err_from_is_err_and}
use Rattle.mp_outline.specs.JobOutline.{outline_of}
use Rattle.mp_answer_laws.proofs.Runs.{nothing_begun}
use Rattle.mp_drive.proofs.Whole.{ends_after, seed_leaves}
use Rattle.mp_drive.proofs.run.replay.Goals as goal
use Rattle.mp_model.specs.Tables.{table_of}

pub returns-in_err-plain-clause-leaves : goal.returns-in_err-plain-clause-leaves
returns-in_err-plain-clause-leaves g c =
    let job = g.J.Naming.job in
    let p = err_from_is_err_and c.from_residual.result c.from_residual.ensures.1 in
    let s = g.S.Sink in
    rw (p.1, p.2) (nothing_begun (table_of g.Q.Query.facts job) job s.written s.faults s.frame c.args.sink.now c.args.sink.now refl)

pub returns-clause-leaves : goal.returns-clause-leaves
returns-clause-leaves g c =
    let job = g.J.Naming.job in
    let s = g.S.Sink in
    seed_leaves (table_of g.Q.Query.facts job) job s.written s.faults s.frame c.in_ok-plain.plain.state c.args.sink.now c.drive_seed.new.sink c.drive_seed.result c.in_ok-plain.ensures.opened.nothing_written c.drive_seed.ensures.leaves

pub returns-clause-made : goal.returns-clause-made
returns-clause-made g c =
    let o = outline_of (table_of g.Q.Query.facts g.J.Naming.job) g.J.Naming.job in
    let opened = c.in_ok-plain.ensures.opened in
    ends_after o c.args.plan.depth c.args.seed c.in_ok-plain.plain c.drive_seed.new.plain c.drive_seed.result opened.start opened.mailboxes c.drive_seed.ensures.ends
