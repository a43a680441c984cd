-- Each clause by the outcome that the call came to, and by how much of its line was said.
use Rattle.mp_command_files.specs.Refused.{outcome_in}
use Rattle.mp_command.proofs.Codes.{bad_checkpoint_at, complete_at, no_run_at, outcome_at, part_at, printed_at, said_fault_at, said_whole, status_at, told_code, untouched_at, usage_at, write_fault_at}
use Rattle.std.proofs.Common.{arith}
use Rattle.mp_run_command.specs.Keeping.{IsKeptBy}
use Rattle.mp_cli.proofs.top.run.Goals as goal

pub returns-clause-usage : goal.returns-clause-usage
returns-clause-usage g c =
    let o = outcome_in c.serve-end.result in
    let tells = told_code g.S.Sink.written g.S.Sink.faults o _ _ _ c.tell.ensures in
    let came = c.serve-end.ensures.came in
    usage_at _ _ o _ _ came.may tells

pub returns-clause-outcome : goal.returns-clause-outcome
returns-clause-outcome g c =
    let o = outcome_in c.serve-end.result in
    let tells = told_code g.S.Sink.written g.S.Sink.faults o _ _ _ c.tell.ensures in
    let came = c.serve-end.ensures.came in
    outcome_at _ _ o _ _ came.may tells

pub returns-clause-not_found : goal.returns-clause-not_found
returns-clause-not_found g c =
    let o = outcome_in c.serve-end.result in
    let tells = told_code g.S.Sink.written g.S.Sink.faults o _ _ _ c.tell.ensures in
    let came = c.serve-end.ensures.came in
    λ e. came.not_found (status_at _ _ o _ _ came.may tells 5 e (λ h. omega (arith, h)) (λ h. omega (arith, h)))

pub returns-clause-read_fault : goal.returns-clause-read_fault
returns-clause-read_fault g c =
    let o = outcome_in c.serve-end.result in
    let tells = told_code g.S.Sink.written g.S.Sink.faults o _ _ _ c.tell.ensures in
    let came = c.serve-end.ensures.came in
    λ e. came.read_fault (status_at _ _ o _ _ came.may tells 6 e (λ h. omega (arith, h)) (λ h. omega (arith, h)))

pub returns-clause-write_fault : goal.returns-clause-write_fault
returns-clause-write_fault g c =
    let o = outcome_in c.serve-end.result in
    let tells = told_code g.S.Sink.written g.S.Sink.faults o _ _ _ c.tell.ensures in
    let came = c.serve-end.ensures.came in
    λ writes e. write_fault_at _ _ o _ _ came.may tells _ came.write_fault writes e

pub returns-clause-said_fault : goal.returns-clause-said_fault
returns-clause-said_fault g c =
    let o = outcome_in c.serve-end.result in
    let tells = told_code g.S.Sink.written g.S.Sink.faults o _ _ _ c.tell.ensures in
    let came = c.serve-end.ensures.came in
    λ says e. said_fault_at _ _ o _ _ came.may tells _ came.write_fault says e

pub returns-clause-complete : goal.returns-clause-complete
returns-clause-complete g c =
    let o = outcome_in c.serve-end.result in
    let tells = told_code g.S.Sink.written g.S.Sink.faults o _ _ _ c.tell.ensures in
    let came = c.serve-end.ensures.came in
    λ asked is some answered no_reads no_writes no_rose. complete_at _ _ o _ _ came.may tells _ _ came.read_fault came.write_fault asked is some answered no_reads no_writes no_rose

pub returns-clause-answer : goal.returns-clause-answer
returns-clause-answer g c =
    let o = outcome_in c.serve-end.result in
    let tells = told_code g.S.Sink.written g.S.Sink.faults o _ _ _ c.tell.ensures in
    let came = c.serve-end.ensures.came in
    λ e. c.serve-end.ensures.ends.answered (status_at _ _ o _ _ came.may tells 0 e (λ h. omega (arith, h)) (λ h. omega (arith, h)))

pub returns-clause-no_run : goal.returns-clause-no_run
returns-clause-no_run g c =
    let o = outcome_in c.serve-end.result in
    let tells = told_code g.S.Sink.written g.S.Sink.faults o _ _ _ c.tell.ensures in
    let came = c.serve-end.ensures.came in
    no_run_at _ _ o _ _ came.may tells

pub returns-clause-bad_checkpoint : goal.returns-clause-bad_checkpoint
returns-clause-bad_checkpoint g c =
    let o = outcome_in c.serve-end.result in
    let tells = told_code g.S.Sink.written g.S.Sink.faults o _ _ _ c.tell.ensures in
    let came = c.serve-end.ensures.came in
    bad_checkpoint_at _ _ o _ _ came.may tells

pub returns-clause-untouched : goal.returns-clause-untouched
returns-clause-untouched g c =
    let o = outcome_in c.serve-end.result in
    let tells = told_code g.S.Sink.written g.S.Sink.faults o _ _ _ c.tell.ensures in
    let came = c.serve-end.ensures.came in
    λ refusal. untouched_at _ _ o _ _ came.may tells IsKeptBy _ c.serve-end.ensures.ends refusal

pub returns-clause-part : goal.returns-clause-part
returns-clause-part g c =
    let o = outcome_in c.serve-end.result in
    let tells = told_code g.S.Sink.written g.S.Sink.faults o _ _ _ c.tell.ensures in
    let came = c.serve-end.ensures.came in
    λ stop. part_at _ _ o _ _ came.may tells IsKeptBy _ c.serve-end.ensures.ends stop

pub returns-clause-printed : goal.returns-clause-printed
returns-clause-printed g c =
    let o = outcome_in c.serve-end.result in
    let tells = told_code g.S.Sink.written g.S.Sink.faults o _ _ _ c.tell.ensures in
    let came = c.serve-end.ensures.came in
    λ e. printed_at _ _ o _ _ came.may tells _ _ (said_whole g.S.Sink.written g.S.Sink.faults o _ _ _ c.tell.ensures) e

pub returns-clause-said : goal.returns-clause-said
returns-clause-said g c =
    let o = outcome_in c.serve-end.result in
    let tells = told_code g.S.Sink.written g.S.Sink.faults o _ _ _ c.tell.ensures in
    let came = c.serve-end.ensures.came in
    (o, came, c.tell.ensures)
