-- Nothing is read, and the file was written or stopped.
use Rattle.std.proofs.Common.{inr, refl}
use Rattle.std.proofs.lemmas.Result.{err_from_is_err_and}
use Rattle.mp_words.specs.Values.{make_in}
use Rattle.mp_words.specs.Words.{Asked, Make}
use Rattle.mp_command.specs.Inputs.{nothing_found}
use Rattle.mp_command.specs.Writing.{NoneKept}
use Rattle.mp_command.proofs.Came.{came_answered, came_stopped}
use Rattle.mp_command.proofs.Leaving.{leaves_part, leaves_whole}
use Rattle.mp_command.proofs.making.make.Goals as goal

pub returns-in_err-make_file-clause-came : goal.returns-in_err-make_file-clause-came
returns-in_err-make_file-clause-came g c =
    let asked : Asked = Make (make_in c.args.options.now) in
    let p = err_from_is_err_and c.from_residual.result c.from_residual.ensures.1 in
    rw (p.1, p.2) (came_stopped g.D.Depot.files g.D.Depot.found g.D.Depot.read_faults g.D.Depot.write_faults asked c.args.depot.now c.make_file.new.depot nothing_found _ refl c.in_err-make_file.ensures.refused (λ e. (tt, c.in_err-make_file.ensures.failed e)))

pub returns-in_err-make_file-clause-left : goal.returns-in_err-make_file-clause-left
returns-in_err-make_file-clause-left g c =
    let asked : Asked = Make (make_in c.args.options.now) in
    let p = err_from_is_err_and c.from_residual.result c.from_residual.ensures.1 in
    rw (p.1, p.2) (leaves_part NoneKept asked _ _ _ c.in_err-make_file.ensures.refused (inr (nothing_found, refl, c.in_err-make_file.ensures.part)))

pub returns-clause-came : goal.returns-clause-came
returns-clause-came g c =
    let asked : Asked = Make (make_in c.args.options.now) in
    rw c.new.ensures.items (came_answered g.D.Depot.files g.D.Depot.found g.D.Depot.read_faults g.D.Depot.write_faults asked c.args.depot.now c.make_file.new.depot nothing_found refl)

pub returns-clause-left : goal.returns-clause-left
returns-clause-left g c =
    let asked : Asked = Make (make_in c.args.options.now) in
    leaves_whole NoneKept asked _ _ _ (nothing_found, refl, tt, c.in_ok-make_file.ensures.whole)
