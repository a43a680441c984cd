-- Each end is one that may come, and leaves what it says.
use Rattle.std.proofs.lemmas.Result.{err_from_is_err_and}
use Rattle.mp_words.specs.Values.{options_in}
use Rattle.mp_words.specs.Words.{Asked, Run}
use Rattle.mp_command.specs.InputFiles.{found_in}
use Rattle.mp_command.proofs.Came.{came_answered, came_refused, refused_leaves}
use Rattle.mp_command.proofs.Leaving.{leaves_whole}
use Rattle.mp_run_command.specs.Keeping.{IsKeptBy}
use Rattle.mp_run_command.proofs.Ended.{came_ended, confirmed, leaves_ended}
use Rattle.mp_run_command.proofs.answering.answer.Goals as goal

pub returns-in_err-read-clause-came : goal.returns-in_err-read-clause-came
returns-in_err-read-clause-came g c =
    let asked : Asked = Run (options_in c.args.options.now) in
    let p = err_from_is_err_and c.from_residual.result c.from_residual.ensures.1 in
    rw (p.1, p.2) (came_refused _ _ _ _ asked _ _ _ c.in_err-read.ensures.refused c.in_err-read.ensures.not_found c.in_err-read.ensures.failed)

pub returns-in_err-read-clause-left : goal.returns-in_err-read-clause-left
returns-in_err-read-clause-left g c =
    let asked : Asked = Run (options_in c.args.options.now) in
    let p = err_from_is_err_and c.from_residual.result c.from_residual.ensures.1 in
    rw (p.1, p.2) (refused_leaves IsKeptBy asked _ _ _ _ c.in_err-read.ensures.refused c.read_run.ensures.files)

pub returns-in_err-write_answer-clause-came : goal.returns-in_err-write_answer-clause-came
returns-in_err-write_answer-clause-came g c =
    let asked = options_in c.args.options.now in
    let p = err_from_is_err_and c.from_residual-in_err-write_answer.result c.from_residual-in_err-write_answer.ensures.1 in
    let failed = rw c.read_run.ensures.writes at c.in_err-write_answer.ensures.failed in
    rw (p.1, p.2) (came_ended g.D.Depot.files g.D.Depot.found g.D.Depot.read_faults g.D.Depot.write_faults asked c.args.depot.now c.write_answer.new.depot (found_in c.in_ok-read.read) _ _ c.in_ok-read.ensures.found c.in_err-write_answer.ensures.refused (λ e. (tt, failed e)))

pub returns-in_err-write_answer-clause-left : goal.returns-in_err-write_answer-clause-left
returns-in_err-write_answer-clause-left g c =
    let asked = options_in c.args.options.now in
    let p = err_from_is_err_and c.from_residual-in_err-write_answer.result c.from_residual-in_err-write_answer.ensures.1 in
    let ended = rw c.read_run.ensures.files at c.in_err-write_answer.ensures.refused in
    let part = rw c.read_run.ensures.files at c.in_err-write_answer.ensures.wrote.part in
    rw (p.1, p.2) (leaves_ended IsKeptBy asked (found_in c.in_ok-read.read) _ _ _ c.in_ok-read.ensures.found ended part)

pub returns-clause-came : goal.returns-clause-came
returns-clause-came g c =
    let asked : Asked = Run (options_in c.args.options.now) in
    rw c.new.ensures.items (came_answered g.D.Depot.files g.D.Depot.found g.D.Depot.read_faults g.D.Depot.write_faults asked c.args.depot.now c.write_answer.new.depot (found_in c.in_ok-read.read) c.in_ok-read.ensures.found)

pub returns-clause-left : goal.returns-clause-left
returns-clause-left g c =
    let asked = options_in c.args.options.now in
    let found = found_in c.in_ok-read.read in
    let whole = rw c.read_run.ensures.files at c.in_ok-write_answer.ensures.wrote.whole in
    leaves_whole IsKeptBy (Run asked) _ _ _ (found, c.in_ok-read.ensures.found, confirmed IsKeptBy asked found _ _ whole, whole)
