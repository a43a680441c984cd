-- Each end is one that may come, and nothing is written.
use Rattle.std.proofs.Common.{◌∙◌}
use Rattle.std.proofs.lemmas.Result.{err_from_is_err_and}
use Rattle.mp_words.specs.Values.{check_in}
use Rattle.mp_words.specs.Words.{Asked, Check}
use Rattle.mp_command.specs.InputFiles.{found_in}
use Rattle.mp_command.specs.Writing.{NoneKept}
use Rattle.mp_command.proofs.Came.{came_answered, came_refused, lacks_so, reads_so, refused_leaves, refuses_so}
use Rattle.mp_command.proofs.Leaving.{leaves_whole}
use Rattle.mp_command.proofs.checking.check.Goals as goal

pub returns-in_err-read-clause-came : goal.returns-in_err-read-clause-came
returns-in_err-read-clause-came g c =
    let asked : Asked = Check (check_in c.args.options.now) in
    let p = err_from_is_err_and c.from_residual.result c.from_residual.ensures.1 in
    let same = c.of_check.ensures.files in
    let refused = refuses_so _ _ _ same _ c.in_err-read.ensures.refused in
    rw (p.1, p.2) (came_refused _ _ _ _ asked _ _ _ refused (λ e. lacks_so g.D.Depot.found _ _ same c.read_inputs.new.depot (c.in_err-read.ensures.not_found e)) c.in_err-read.ensures.failed)

pub returns-in_err-read-clause-left : goal.returns-in_err-read-clause-left
returns-in_err-read-clause-left g c =
    let asked : Asked = Check (check_in c.args.options.now) in
    let p = err_from_is_err_and c.from_residual.result c.from_residual.ensures.1 in
    let refused = refuses_so _ _ _ c.of_check.ensures.files _ c.in_err-read.ensures.refused in
    rw (p.1, p.2) (refused_leaves NoneKept asked _ _ _ _ refused c.read_inputs.ensures.files)

pub returns-clause-came : goal.returns-clause-came
returns-clause-came g c =
    let asked : Asked = Check (check_in c.args.options.now) in
    let read = reads_so _ _ _ c.of_check.ensures.files _ c.in_ok-read.ensures.found in
    let some_events = c.len.ensures ∙ c.in_ok-read.read.parts.events.ok.0 in
    let some_controls = c.len-2.ensures ∙ c.in_ok-read.read.parts.settings.controls.ok.0 in
    let line = rw (some_events, some_controls) at c.in_ok-ok_line.ensures in
    rw line (came_answered _ _ _ _ asked _ _ (found_in c.in_ok-read.read) read)

pub returns-clause-left : goal.returns-clause-left
returns-clause-left g c =
    let asked : Asked = Check (check_in c.args.options.now) in
    let read = reads_so _ _ _ c.of_check.ensures.files _ c.in_ok-read.ensures.found in
    leaves_whole NoneKept asked _ _ _ (found_in c.in_ok-read.read, read, tt, c.read_inputs.ensures.files)
