-- The name in memory holds the whole answer.
use Rattle.std.proofs.Common.{◌∙◌, ap, sym}
use Rattle.std.specs.Option.{option_copied}
use Rattle.mp_control.specs.Settings.{SettingsFacts}
use Rattle.mp_model.specs.Rules.{given_values}
use Rattle.mp_words.specs.declared.options.QueryOption.{QueryOption}
use Rattle.mp_words.specs.Values.{query_in}
use Rattle.mp_command.specs.declared.flow.Flow.{Flow}
use Rattle.mp_command.specs.declared.flow.FlowQuery.{FlowQuery}
use Rattle.mp_command.specs.InputFiles.{pipe_in}
use Rattle.mp_command.specs.Queries.{query_with, rules_of}
use Rattle.mp_command.proofs.TwoMoves.{copied_some, demo_text, got_written}
use Rattle.mp_command.proofs.Asked.{few_bins}
use Rattle.mp_run_command.proofs.in_memory.demo.Goals as goal

pub demo_settings-requires-clause-bins : goal.demo_settings-requires-clause-bins
demo_settings-requires-clause-bins g c = rw c.of_demo-flow.ensures (few_bins c.args.options.now.bins c.requires.bins)

pub unreachable-requires : goal.unreachable-requires
unreachable-requires g c =
    let whole = rw (c.run_in_memory-asked.ensures.out, c.run_in_memory-asked.ensures.report, c.run_in_memory-asked.ensures.journal, c.run_in_memory-asked.ensures.span) at c.in_ok-write_answer.ensures.wrote.whole in
    let got = got_written _ _ _ _ c.new-memory.ensures.files whole.2 in
    let held = ap option_copied (sym c.in-None.is) ∙ c.get.ensures ∙ got in
    cc

pub returns-clause-line : goal.returns-clause-line
returns-clause-line g c =
    let whole = rw (c.run_in_memory-asked.ensures.out, c.run_in_memory-asked.ensures.report, c.run_in_memory-asked.ensures.journal, c.run_in_memory-asked.ensures.span) at c.in_ok-write_answer.ensures.wrote.whole in
    let got = got_written _ _ _ _ c.new-memory.ensures.files whole.2 in
    let held = copied_some _ _ _ c.in-Some.is (c.get.ensures ∙ got) in
    let pipe = pipe_in c.of_demo-flow.result.query in
    let same = ap (λ (query : QueryOption). query_with (query_in query) pipe) c.run_in_memory-asked.ensures.query in
    let shown = ap (λ (flow : Flow). given_values (rules_of flow.query)) c.of_demo-flow.ensures ∙ sym (ap (λ (query : FlowQuery). given_values (rules_of query)) same) in
    let given = ap (λ (s : SettingsFacts). s.values) c.in_ok-settings.ensures.settings ∙ shown in
    let text = demo_text _ _ _ _ _ _ whole.1 given same c.in_ok-events.ensures.made in
    rw (held ∙ text, c.from.ensures) at c.in_ok-summary-in-Some.ensures
