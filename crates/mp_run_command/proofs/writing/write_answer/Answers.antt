-- What is written is that of the query of a name, or of a pipeline, which takes all events and whose last stage gives rows alone.
use Rattle.std.proofs.Common.{Err, Ok, ap, ℕ, List}
use Rattle.std.proofs.lemmas.Result.{err_from_is_err_and}
use Rattle.mp_control.specs.Settings.{settings_in}
use Rattle.mp_model.specs.Facts.{JobFacts, QueryFacts}
use Rattle.mp_words.specs.Values.{options_in}
use Rattle.mp_command.specs.Config.{flow_of, flow_with}
use Rattle.mp_command.specs.InputFiles.{found_in}
use Rattle.mp_command.specs.Queries.{SomeQuery}
use Rattle.mp_command.specs.Writing.{IsTextOfJob, save_target}
use Rattle.mp_command.proofs.Asked.{of_flow, of_piped, piped_fits, query_of_flow}
use Rattle.mp_command.proofs.GivingRows.{pipes_give_rows}
use Rattle.mp_command.specs.declared.flow.FlowQuery.TheVariants.{Named, Piped}
use Rattle.mp_run_command.specs.Keeping.{IsKeptOf}
use Rattle.mp_run_command.specs.Wrote.{Writes}
use Rattle.mp_run_command.proofs.Ended.{EndsBy, all_end}
use Rattle.mp_run_command.proofs.Targets.{pipes_are_whole}
use Rattle.mp_run_command.proofs.writing.write_answer.Goals as goal

pub run_asked-requires-clause-rows : goal.run_asked-requires-clause-rows
run_asked-requires-clause-rows g c κs within = pipes_give_rows

pub run_asked-requires-clause-settings : goal.run_asked-requires-clause-settings
run_asked-requires-clause-settings g c κs within =
    let sound = rw c.in-Piped.is at c.requires.sound in
    let fit = piped_fits (flow_of (options_in c.args.options.now)) c.args.read.flow _ c.in-Piped.pipe _ c.requires.flow c.in-Piped.is sound c.requires.settings in
    rw c.in-Piped.pipe-is fit

pub run_asked-requires-clause-no_save : goal.run_asked-requires-clause-no_save
run_asked-requires-clause-no_save g c κs within =
    ap save_target (pipes_are_whole (options_in c.args.options.now) c.requires.options.span c.args.read.flow (found_in c.args.read).pipe c.in-Piped.pipe c.requires.flow c.in-Piped.is)

pub returns-in-Named : goal.returns-in-Named
returns-in-Named g c =
    let asked = options_in c.args.options.now in
    let Says = λ (some : SomeQuery) (values : List ℕ) (j : JobFacts). EndsBy g.D.Depot.files g.D.Depot.write_faults some values c.args.read.parts.checkpoint.items j asked c.write_named.result c.args.depot.now c.write_named.new.depot in
    query_of_flow (flow_of asked) c.args.read.parts.events.items (settings_in c.args.read.parts.settings) Says
    c.args.read.flow _ (Named c.in-Named.name) c.requires.flow c.in-Named.is c.write_named.ensures

pub returns-in_err-run_asked-in-Piped : goal.returns-in_err-run_asked-in-Piped
returns-in_err-run_asked-in-Piped g c =
    let asked = options_in c.args.options.now in
    let pipe = (found_in c.args.read).pipe in
    let events = c.args.read.parts.events.items in
    let settings = settings_in c.args.read.parts.settings in
    let Says = λ (Cell : Type 0) (q : QueryFacts Cell) (j : JobFacts). Writes g.D.Depot.files g.D.Depot.write_faults (IsTextOfJob q j (IsKeptOf q j asked)) asked c.run_asked.result c.args.depot.now c.run_asked.new.depot in
    let sound = rw c.in-Piped.is at c.requires.sound in
    let whole = pipes_are_whole asked c.requires.options.span c.args.read.flow pipe c.in-Piped.pipe c.requires.flow c.in-Piped.is in
    let writes = of_flow (flow_of asked) events settings Says c.args.read.flow pipe (Piped c.in-Piped.pipe) c.requires.flow c.in-Piped.is
    (of_piped (flow_of asked) events settings Says c.in-Piped.pipe sound (rw c.in-Piped.pipe-is at c.run_asked.ensures.writes)) in
    let part = rw c.in_err-run_asked-in-Piped.was at writes.wrote.part in
    let stop = c.in_err-run_asked-in-Piped.ensures.writes in
    let p = err_from_is_err_and c.from_residual.result c.from_residual.ensures.1 in
    rw (p.1, p.2) (all_end g.D.Depot.files g.D.Depot.write_faults asked (flow_with (flow_of asked) pipe) events settings c.args.read.parts.checkpoint.items (Err _) _ _ whole
    (record { wrote = record { whole = tt; part = part }; refused = stop.refused; failed = stop.failed }))

pub returns-in_ok-run_asked-in-Piped : goal.returns-in_ok-run_asked-in-Piped
returns-in_ok-run_asked-in-Piped g c =
    let asked = options_in c.args.options.now in
    let pipe = (found_in c.args.read).pipe in
    let events = c.args.read.parts.events.items in
    let settings = settings_in c.args.read.parts.settings in
    let Says = λ (Cell : Type 0) (q : QueryFacts Cell) (j : JobFacts). Writes g.D.Depot.files g.D.Depot.write_faults (IsTextOfJob q j (IsKeptOf q j asked)) asked c.run_asked.result c.args.depot.now c.run_asked.new.depot in
    let sound = rw c.in-Piped.is at c.requires.sound in
    let whole = pipes_are_whole asked c.requires.options.span c.args.read.flow pipe c.in-Piped.pipe c.requires.flow c.in-Piped.is in
    let writes = of_flow (flow_of asked) events settings Says c.args.read.flow pipe (Piped c.in-Piped.pipe) c.requires.flow c.in-Piped.is
    (of_piped (flow_of asked) events settings Says c.in-Piped.pipe sound (rw c.in-Piped.pipe-is at c.run_asked.ensures.writes)) in
    let all = rw c.in_ok-run_asked-in-Piped.was at writes.wrote.whole in
    all_end g.D.Depot.files g.D.Depot.write_faults asked (flow_with (flow_of asked) pipe) events settings c.args.read.parts.checkpoint.items (Ok _) _ _ whole
    (record { wrote = record { whole = all; part = tt }; refused = tt; failed = tt })
