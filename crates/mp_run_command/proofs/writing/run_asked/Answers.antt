-- The job has the query's own table, with the values that were read.
use Rattle.std.proofs.Common.{ap, IfOk, subst, sym}
use Rattle.std.proofs.lemmas.Result.{err_from_is_err_and}
use Rattle.mp_model.specs.Facts.{JobFacts, QueryFacts}
use Rattle.mp_output.specs.Rows.{GivesRows}
use Rattle.mp_model.specs.Rules.{numbers_with}
use Rattle.mp_words.specs.Values.{options_in}
use Rattle.mp_command.specs.Writing.{IsTextOfJob}
use Rattle.mp_command.proofs.Asked.{of_own}
use Rattle.mp_run_command.specs.Keeping.{IsKeptOf}
use Rattle.mp_run_command.specs.Running.{TellsRun}
use Rattle.mp_run_command.specs.Wrote.{Writes}
use Rattle.mp_run_command.proofs.Ended.{short_writes}
use Rattle.mp_run_command.proofs.writing.run_asked.Goals as goal

pub write_all-ran-requires-clause-rows : goal.write_all-ran-requires-clause-rows
write_all-ran-requires-clause-rows g c κs within =
    let numbers = numbers_with (g.Q.Query.rules c.args.given) (g.Q.Query.values c.args.given) c.args.parts.settings.values in
    subst (λ (q : QueryFacts _). GivesRows q) (sym c.in_ok-job.ensures.table) (c.requires.rows numbers)

pub write_all-ran-requires-clause-size : goal.write_all-ran-requires-clause-size
write_all-ran-requires-clause-size g c κs within = ap (λ (j : JobFacts). j.shape.workers) c.in_ok-job.ensures.job

pub returns-in_err-job-clause-writes : goal.returns-in_err-job-clause-writes
returns-in_err-job-clause-writes g c =
    let p = err_from_is_err_and c.from_residual.result c.from_residual.ensures.1 in
    rw (p.1, p.2) (short_writes g.D.Depot.files g.D.Depot.write_faults _ _ c.args.depot.now)

pub returns-clause-tells : goal.returns-clause-tells
returns-clause-tells g c =
    let asked = options_in c.args.options.now in
    of_own (λ (q : QueryFacts _) (j : JobFacts). IfOk c.write_all-ran.result (λ run. TellsRun q j asked run)) _ _ _ _ c.in_ok-job.ensures.table c.in_ok-job.ensures.job c.write_all-ran.ensures.tells

pub returns-clause-writes : goal.returns-clause-writes
returns-clause-writes g c =
    let asked = options_in c.args.options.now in
    of_own (λ (q : QueryFacts _) (j : JobFacts). Writes g.D.Depot.files g.D.Depot.write_faults (IsTextOfJob q j (IsKeptOf q j asked)) asked c.write_all-ran.result c.args.depot.now c.write_all-ran.new.depot)
    _ _ _ _ c.in_ok-job.ensures.table c.in_ok-job.ensures.job c.write_all-ran.ensures.writes
