-- Each end is one that may come, and nothing is written.
use Rattle.std.proofs.Common.{arith, refl}
use Rattle.std.proofs.lemmas.Result.{err_from_is_err_and}
use Rattle.mp_words.specs.Values.{audit_in}
use Rattle.mp_words.specs.Words.{Asked, Audit}
use Rattle.mp_command_files.specs.Outcome.{NoRun}
use Rattle.mp_command.specs.Writing.{NoneKept}
use Rattle.mp_command.proofs.Came.{came_answered, came_refused, came_refuted, refused_leaves}
use Rattle.mp_command.proofs.Leaving.{leaves_alone, leaves_whole}
use Rattle.mp_audit_command.specs.Audited.{found_in}
use Rattle.mp_audit_command.proofs.Counted.{legal_by}
use Rattle.mp_audit_command.proofs.auditing.audit.Goals as goal

pub returns-in_err-read-clause-came : goal.returns-in_err-read-clause-came
returns-in_err-read-clause-came g c =
    let asked : Asked = Audit (audit_in c.args.options.now) in
    let p = err_from_is_err_and c.from_residual.result c.from_residual.ensures.1 in
    rw (p.1, p.2) (came_refused g.D.Depot.files g.D.Depot.found g.D.Depot.read_faults g.D.Depot.write_faults asked c.args.depot.now c.read_audited.new.depot _ c.in_err-read.ensures.refused c.in_err-read.ensures.not_found c.in_err-read.ensures.failed)

pub returns-in_err-read-clause-left : goal.returns-in_err-read-clause-left
returns-in_err-read-clause-left g c =
    let asked : Asked = Audit (audit_in c.args.options.now) in
    let p = err_from_is_err_and c.from_residual.result c.from_residual.ensures.1 in
    rw (p.1, p.2) (refused_leaves NoneKept asked _ _ _ _ c.in_err-read.ensures.refused c.read_audited.ensures.files)

pub returns-in-Ok-clause-came : goal.returns-in-Ok-clause-came
returns-in-Ok-clause-came g c =
    let asked = audit_in c.args.options.now in
    let found = found_in c.in_ok-read.read in
    let merge = rw c.as_slice.ensures.value at c.in-Ok.ensures.merge in
    let answer = rw c.as_slice-2.ensures.value at c.in-Ok.ensures.answers in
    let legal = legal_by asked found c.in-Ok.steps merge answer in
    rw (c.in_ok-legal_line-in-Ok.ensures, legal.1) (came_answered g.D.Depot.files g.D.Depot.found g.D.Depot.read_faults g.D.Depot.write_faults (Audit asked) c.args.depot.now c.read_audited.new.depot found c.in_ok-read.ensures.found)

pub returns-in-Ok-clause-left : goal.returns-in-Ok-clause-left
returns-in-Ok-clause-left g c =
    let asked = audit_in c.args.options.now in
    let found = found_in c.in_ok-read.read in
    let merge = rw c.as_slice.ensures.value at c.in-Ok.ensures.merge in
    let answer = rw c.as_slice-2.ensures.value at c.in-Ok.ensures.answers in
    let legal = legal_by asked found c.in-Ok.steps merge answer in
    leaves_whole NoneKept (Audit asked) _ _ _ (found, c.in_ok-read.ensures.found, legal.0, c.read_audited.ensures.files)

pub returns-in-Err-NoRun-clause-came : goal.returns-in-Err-NoRun-clause-came
returns-in-Err-NoRun-clause-came g c =
    let asked = audit_in c.args.options.now in
    let found = found_in c.in_ok-read.read in
    let told = rw c.in-Err-NoRun.field-0-is at c.in-Err-NoRun.ensures.none in
    let illegal = rw (c.as_slice.ensures.value, c.as_slice-2.ensures.value) at told refl in
    came_refuted g.D.Depot.files g.D.Depot.found g.D.Depot.read_faults g.D.Depot.write_faults (Audit asked) c.args.depot.now c.read_audited.new.depot found NoRun c.in_ok-read.ensures.found refl illegal

pub returns-in-Err-NoRun-clause-left : goal.returns-in-Err-NoRun-clause-left
returns-in-Err-NoRun-clause-left g c = leaves_alone NoneKept (Audit (audit_in c.args.options.now)) NoRun _ _ (λ e. omega (arith, e)) c.read_audited.ensures.files
