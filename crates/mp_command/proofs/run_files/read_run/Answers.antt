-- The bytes of a checkpoint come behind the other files.
use Rattle.std.proofs.lemmas.Result.{err_from_is_err_and}
use Rattle.mp_words.specs.Values.{options_in}
use Rattle.mp_command.specs.Config.{flow_of}
use Rattle.mp_command.specs.InputFiles.{found_in}
use Rattle.mp_command.specs.Inputs.{checkpoint_input, files_of, nothing_found}
use Rattle.mp_command.proofs.Behind.{reads_both, refuses_first, refuses_second}
use Rattle.mp_command.proofs.Came.{reads_so, refuses_so}
use Rattle.mp_command.proofs.run_files.read_run.Goals as goal

pub returns-in_err-flow-clause-refused : goal.returns-in_err-flow-clause-refused
returns-in_err-flow-clause-refused g c =
    let asked = options_in c.args.options.now in
    let told = g.D.Depot.files c.args.depot.now in
    let files = files_of asked.events asked.config (flow_of asked) in
    let p = err_from_is_err_and c.from_residual.result c.from_residual.ensures.1 in
    let refused = refuses_so told _ files c.of_run.ensures.files _ c.in_err-flow.ensures.refused in
    rw (p.1, p.2) (refuses_first told files (checkpoint_input asked.span) nothing_found _ refused)

pub returns-in_err-checkpoint-clause-refused : goal.returns-in_err-checkpoint-clause-refused
returns-in_err-checkpoint-clause-refused g c =
    let asked = options_in c.args.options.now in
    let told = g.D.Depot.files c.args.depot.now in
    let files = files_of asked.events asked.config (flow_of asked) in
    let found = found_in c.in_ok-flow.field-0 in
    let p = err_from_is_err_and c.from_residual-in_err-checkpoint.result c.from_residual-in_err-checkpoint.ensures.1 in
    let read = reads_so told _ files c.of_run.ensures.files _ c.in_ok-flow.ensures.found in
    let refused = rw c.read_inputs.ensures.files at c.in_err-checkpoint.ensures.refused found in
    rw (p.1, p.2) (refuses_second told files (checkpoint_input asked.span) nothing_found found _ read refused)

pub returns-clause-found : goal.returns-clause-found
returns-clause-found g c =
    let asked = options_in c.args.options.now in
    let told = g.D.Depot.files c.args.depot.now in
    let files = files_of asked.events asked.config (flow_of asked) in
    let found = found_in c.in_ok-flow.field-0 in
    let read = reads_so told _ files c.of_run.ensures.files _ c.in_ok-flow.ensures.found in
    let more = rw c.read_inputs.ensures.files at c.in_ok-checkpoint.ensures.found found c.in_ok-flow.ensures.no_checkpoint in
    reads_both told files (checkpoint_input asked.span) nothing_found found _ read more
