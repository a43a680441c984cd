-- The events come first, then the pipeline, and then the configuration.
use Rattle.std.proofs.Common.{ap, inl, inr, List, refl, ℕ}
use Rattle.std.proofs.lemmas.Result.{err_from_is_err_and}
use Rattle.mp_control.specs.Settings.{settings_in}
use Rattle.mp_command.specs.declared.flow.Flow.{Flow}
use Rattle.mp_command.specs.declared.flow.FlowQuery.{FlowQuery}
use Rattle.mp_command.specs.InputFiles.{flow_in, pipe_in}
use Rattle.mp_command.specs.Inputs.{Found, nothing_found, pipe_input}
use Rattle.mp_command.proofs.Behind.{named_first, named_second, reads_both, refuses_first, refuses_second}
use Rattle.mp_command.proofs.Texts.{events_end, events_found}
use Rattle.mp_command.proofs.reading.read_inputs.Goals as goal

pub returns-in_err-events-clause-refused : goal.returns-in_err-events-clause-refused
returns-in_err-events-clause-refused g c =
    let p = err_from_is_err_and c.from_residual.result c.from_residual.ensures.1 in
    rw (p.1, p.2) (inl (events_end _ _ nothing_found _ c.in_err-events.ensures.refused))

pub returns-in_err-query-clause-refused : goal.returns-in_err-query-clause-refused
returns-in_err-query-clause-refused g c =
    let p = err_from_is_err_and c.from_residual-in_err-query.result c.from_residual-in_err-query.ensures.1 in
    let found : Found = record nothing_found { events = c.in_ok-events.events.items } in
    let refused = rw c.events_in.ensures.files at c.in_err-query.ensures.refused found in
    rw (p.1, p.2) (inr (found, events_found _ _ nothing_found _ c.in_ok-events.ensures.events, refuses_first _ (pipe_input (flow_in c.args.files.now).query) _ found _ refused))

pub returns-in_err-query-clause-not_found : goal.returns-in_err-query-clause-not_found
returns-in_err-query-clause-not_found g c =
    let p = err_from_is_err_and c.from_residual-in_err-query.result c.from_residual-in_err-query.ensures.1 in
    rw (p.1, p.2) (λ five. let lacks = c.in_err-query.ensures.not_found five in (lacks.0, lacks.1, inr (named_first _ _ _ lacks.2), lacks.3))

pub returns-in_err-settings-clause-not_found : goal.returns-in_err-settings-clause-not_found
returns-in_err-settings-clause-not_found g c =
    let asked = flow_in c.args.files.now in
    let p = err_from_is_err_and c.from_residual-in_err-settings.result c.from_residual-in_err-settings.ensures.1 in
    rw (p.1, p.2) (λ five. (c.query_in.new.depot, c.args.files.now.config.now, inr (named_second (pipe_input asked.query) _ _ (inl refl)), c.in_err-settings.ensures.not_found five))

pub returns-in_err-settings-clause-refused : goal.returns-in_err-settings-clause-refused
returns-in_err-settings-clause-refused g c =
    let p = err_from_is_err_and c.from_residual-in_err-settings.result c.from_residual-in_err-settings.ensures.1 in
    let asked = flow_in c.args.files.now in
    let found : Found = record nothing_found { events = c.in_ok-events.events.items } in
    let with : Found = record found { pipe = pipe_in c.in_ok-query.query } in
    let sized : FlowQuery → Flow = λ query. record { query = query; workers = asked.workers; bins = asked.bins } in
    let pipe = rw c.events_in.ensures.files at c.in_ok-query.ensures.found c.in_ok-events.events.items in
    let refused = rw (c.query_in.ensures.files, c.events_in.ensures.files) at c.in_err-settings.ensures.refused asked with (ap sized c.in_ok-query.ensures.query) in
    rw (p.1, p.2) (inr (found, events_found _ _ nothing_found _ c.in_ok-events.ensures.events, refuses_second _ (pipe_input asked.query) _ found with _ pipe (inl refused)))

pub returns-clause-found : goal.returns-clause-found
returns-clause-found g c =
    let asked = flow_in c.args.files.now in
    let found : Found = record nothing_found { events = c.in_ok-events.events.items } in
    let with : Found = record found { pipe = pipe_in c.in_ok-query.query } in
    let sized : FlowQuery → Flow = λ query. record { query = query; workers = asked.workers; bins = asked.bins } in
    let pipe = rw c.events_in.ensures.files at c.in_ok-query.ensures.found c.in_ok-events.events.items in
    let settings = rw (c.query_in.ensures.files, c.events_in.ensures.files) at c.in_ok-settings.ensures.settings asked with (ap sized c.in_ok-query.ensures.query) in (
      found,
      events_found _ _ nothing_found _ c.in_ok-events.ensures.events,
      reads_both _ (pipe_input asked.query) _ found with _ pipe (
        record with { settings = settings_in c.in_ok-settings.settings },
        settings,
        ap (λ (bytes : List ℕ). record with { settings = settings_in c.in_ok-settings.settings; checkpoint = bytes }) c.new.ensures.items,
      ),
    )
