-- A run begins with nothing written, so what stands in the sink at its end is what the schedule wrote.
use Rattle.std.proofs.Common.{Ok, Err, map, refl}
use Rattle.std.proofs.lemmas.Result.{err_from_is_err_and}
use Rattle.mp_model.specs.Tables.{table_of}
use Rattle.mp_schedule.specs.Below.{states_of_job}
use Rattle.mp_outline.specs.JobOutline.{outline_of}
use Rattle.mp_answer_laws.proofs.Runs.{handed_on, nothing_begun, told, untold}
use Rattle.mp_drive.proofs.Whole.{ends_after, seed_leaves, tallies_of_job}
use Rattle.mp_drive.proofs.states.replay_with_states.Goals as goal

pub returns-in_err-plain-clause-leaves : goal.returns-in_err-plain-clause-leaves
returns-in_err-plain-clause-leaves g c =
    let job = g.J.Naming.job in
    let p = err_from_is_err_and c.from_residual.result c.from_residual.ensures.1 in
    let s = g.S.Sink in
    rw (p.1, p.2) (nothing_begun (table_of g.Q.Query.facts job) job s.written s.faults s.frame c.args.sink.now c.args.sink.now refl)

pub returns-in_err-steps-clause-leaves : goal.returns-in_err-steps-clause-leaves
returns-in_err-steps-clause-leaves g c =
    let job = g.J.Naming.job in
    let q = table_of g.Q.Query.facts job in
    let s = g.S.Sink in
    let e = c.in_err-steps.ensures in
    let p = err_from_is_err_and c.from_residual-in_err-steps.result c.from_residual-in_err-steps.ensures.1 in
    rw (p.1, p.2)
    (handed_on q job s.written s.faults s.frame c.in_err-steps.field-0.0 c.args.sink.now c.drive_seed.new.sink
    (seed_leaves q job s.written s.faults s.frame c.in_ok-plain.plain.state c.args.sink.now c.drive_seed.new.sink (Err c.in_err-steps.field-0.0) c.in_ok-plain.ensures.opened.nothing_written e.leaves))

pub returns-in_err-tallies-clause-leaves : goal.returns-in_err-tallies-clause-leaves
returns-in_err-tallies-clause-leaves g c =
    let job = g.J.Naming.job in
    let q = table_of g.Q.Query.facts job in
    let s = g.S.Sink in
    let e = c.in_ok-steps.ensures in
    let p = err_from_is_err_and c.from_residual-in_err-tallies.result c.from_residual-in_err-tallies.ensures.1 in
    rw (p.1, p.2)
    (untold q job s.written s.faults s.frame c.in_ok-steps.steps c.args.sink.now c.drive_seed.new.sink
    (seed_leaves q job s.written s.faults s.frame c.in_ok-plain.plain.state c.args.sink.now c.drive_seed.new.sink (Ok c.in_ok-steps.steps) c.in_ok-plain.ensures.opened.nothing_written e.leaves))

pub returns-in_err-states-clause-leaves : goal.returns-in_err-states-clause-leaves
returns-in_err-states-clause-leaves g c =
    let job = g.J.Naming.job in
    let q = table_of g.Q.Query.facts job in
    let s = g.S.Sink in
    let e = c.in_ok-steps.ensures in
    let p = err_from_is_err_and c.from_residual-in_err-states.result c.from_residual-in_err-states.ensures.1 in
    rw (p.1, p.2)
    (untold q job s.written s.faults s.frame c.in_ok-steps.steps c.args.sink.now c.drive_seed.new.sink
    (seed_leaves q job s.written s.faults s.frame c.in_ok-plain.plain.state c.args.sink.now c.drive_seed.new.sink (Ok c.in_ok-steps.steps) c.in_ok-plain.ensures.opened.nothing_written e.leaves))

pub returns-clause-leaves : goal.returns-clause-leaves
returns-clause-leaves g c =
    let job = g.J.Naming.job in
    let q = table_of g.Q.Query.facts job in
    let s = g.S.Sink in
    let e = c.in_ok-steps.ensures in
    told q job s.written s.faults s.frame c.in_ok-steps.steps _ c.args.sink.now c.drive_seed.new.sink
    (seed_leaves q job s.written s.faults s.frame c.in_ok-plain.plain.state c.args.sink.now c.drive_seed.new.sink (Ok c.in_ok-steps.steps) c.in_ok-plain.ensures.opened.nothing_written e.leaves)

pub returns-clause-tallies : goal.returns-clause-tallies
returns-clause-tallies g c = tallies_of_job g.Q.Query.facts c.args.job.now g.J.Naming.job c.requires.run.run c.in_ok-tallies.tallies.items (c.in_ok-tallies.ensures.at_the_end c.in_ok-steps.ensures.ends.finished)

pub returns-clause-made : goal.returns-clause-made
returns-clause-made g c =
    let o = outline_of (table_of g.Q.Query.facts g.J.Naming.job) g.J.Naming.job in
    let opened = c.in_ok-plain.ensures.opened in
    ends_after o c.args.plan.depth c.args.seed c.in_ok-plain.plain c.drive_seed.new.plain (Ok c.in_ok-steps.steps) opened.start opened.mailboxes c.in_ok-steps.ensures.ends

pub returns-clause-states : goal.returns-clause-states
returns-clause-states g c = states_of_job g.Q.Query.facts c.args.job.now g.J.Naming.job c.requires.run.run (map (λ own. own.items) c.in_ok-states.states.items) c.in_ok-states.ensures
