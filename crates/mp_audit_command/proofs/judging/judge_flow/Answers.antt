-- What is judged by a query is judged by the dataflow that is asked for.
use Rattle.std.proofs.Common.{map}
use Rattle.mp_control.specs.Settings.{settings_in}
use Rattle.mp_model.specs.Facts.{JobFacts, QueryFacts}
use Rattle.mp_words.specs.Values.{audit_in}
use Rattle.mp_command.specs.declared.flow.FlowQuery.TheVariants.{Named, Piped}
use Rattle.mp_command.specs.Config.{flow_to_audit}
use Rattle.mp_command.proofs.Asked.{of_flow, of_piped, piped_fits}
use Rattle.mp_audit_command.specs.Judging.{Judges}
use Rattle.mp_audit_command.proofs.judging.judge_flow.Goals as goal

pub judge-requires-clause-settings : goal.judge-requires-clause-settings
judge-requires-clause-settings c κs =
    let sound = rw c.in-Piped.is at c.requires.sound in
    let fit = piped_fits (flow_to_audit (audit_in c.args.options.now)) c.args.inputs.flow _ c.in-Piped.pipe _ c.requires.flow c.in-Piped.is sound c.requires.settings in
    rw c.in-Piped.pipe-is fit

pub returns-in-Named : goal.returns-in-Named
returns-in-Named c =
    let options = c.args.options.now in
    let Says = λ (Cell : Type 0) (q : QueryFacts Cell) (j : JobFacts). Judges q j options.depth options.paced (map (λ v. v.items) c.args.journal.now) c.args.answer.now c.judge_named.result in
    of_flow (flow_to_audit (audit_in options)) c.args.inputs.parts.events.items (settings_in c.args.inputs.parts.settings) Says
    c.args.inputs.flow _ (Named c.in-Named.name) c.requires.flow c.in-Named.is c.judge_named.ensures

pub returns-in-Piped : goal.returns-in-Piped
returns-in-Piped c =
    let options = c.args.options.now in
    let events = c.args.inputs.parts.events.items in
    let settings = settings_in c.args.inputs.parts.settings in
    let Says = λ (Cell : Type 0) (q : QueryFacts Cell) (j : JobFacts). Judges q j options.depth options.paced (map (λ v. v.items) c.args.journal.now) c.args.answer.now c.judge.result in
    let sound = rw c.in-Piped.is at c.requires.sound in
    of_flow (flow_to_audit (audit_in options)) events settings Says c.args.inputs.flow _ (Piped c.in-Piped.pipe) c.requires.flow c.in-Piped.is
    (of_piped (flow_to_audit (audit_in options)) events settings Says c.in-Piped.pipe sound (rw c.in-Piped.pipe-is at c.judge.ensures))
