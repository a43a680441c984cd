-- What a run reads comes first, then the answer, and then the journal.
use Rattle.std.proofs.Common.{◌∙◌, ap, inl, inr, map, refl}
use Rattle.std.proofs.lemmas.Result.{err_from_is_err_and}
use Rattle.mp_words.specs.Values.{audit_in}
use Rattle.mp_command.specs.declared.flow.Flow.{Flow}
use Rattle.mp_command.specs.Config.{FlowAsked, flow_to_audit, flow_with}
use Rattle.mp_command.specs.InputFiles.{found_in as found_by_run}
use Rattle.mp_command.specs.Inputs.{Found, audited_files, files_of, nothing_found}
use Rattle.mp_command.proofs.Behind.{named_first, named_second, reads_both, refuses_first, refuses_second}
use Rattle.mp_command.proofs.Came.{lacks_so, reads_so, refuses_so}
use Rattle.mp_audit_command.proofs.reading.read_audited.Goals as goal

pub returns-in_err-inputs-clause-refused : goal.returns-in_err-inputs-clause-refused
returns-in_err-inputs-clause-refused g c =
    let asked = audit_in c.args.options.now in
    let flow = flow_to_audit asked in
    let p = err_from_is_err_and c.from_residual.result c.from_residual.ensures.1 in
    let refused = refuses_so _ _ _ c.of_audit.ensures.files _ c.in_err-inputs.ensures.refused in
    rw (p.1, p.2) (refuses_first _ (files_of asked.events asked.config flow) (audited_files asked.out asked.journal flow) nothing_found _ refused)

pub returns-in_err-inputs-clause-not_found : goal.returns-in_err-inputs-clause-not_found
returns-in_err-inputs-clause-not_found g c =
    let asked = audit_in c.args.options.now in
    let flow = flow_to_audit asked in
    let first = files_of asked.events asked.config flow in
    let p = err_from_is_err_and c.from_residual.result c.from_residual.ensures.1 in
    rw (p.1, p.2) (λ five.
    let lacks = lacks_so g.D.Depot.found _ first c.of_audit.ensures.files c.read_inputs.new.depot (c.in_err-inputs.ensures.not_found five) in
    (lacks.0, lacks.1, named_first first (audited_files asked.out asked.journal flow) lacks.1 lacks.2, lacks.3))

pub returns-in_err-answer-clause-refused : goal.returns-in_err-answer-clause-refused
returns-in_err-answer-clause-refused g c =
    let asked = audit_in c.args.options.now in
    let flow = flow_to_audit asked in
    let p = err_from_is_err_and c.from_residual-in_err-answer.result c.from_residual-in_err-answer.ensures.1 in
    let found : Found = found_by_run c.in_ok-inputs.inputs in
    let read = reads_so _ _ _ c.of_audit.ensures.files _ c.in_ok-inputs.ensures.found in
    let cannot = rw c.read_inputs.ensures.files at c.in_err-answer.ensures.refused in
    rw (p.1, p.2) (refuses_second _ (files_of asked.events asked.config flow) (audited_files asked.out asked.journal flow) nothing_found found _ read (inl (inl cannot)))

pub returns-in_err-answer-clause-not_found : goal.returns-in_err-answer-clause-not_found
returns-in_err-answer-clause-not_found g c =
    let asked = audit_in c.args.options.now in
    let p = err_from_is_err_and c.from_residual-in_err-answer.result c.from_residual-in_err-answer.ensures.1 in
    let flow = flow_to_audit asked in
    rw (p.1, p.2) (λ five. (c.read_inputs.new.depot, asked.out, named_second (files_of asked.events asked.config flow) (audited_files asked.out asked.journal flow) asked.out (inl refl), c.in_err-answer.ensures.not_found five))

pub returns-in_err-journal-clause-refused : goal.returns-in_err-journal-clause-refused
returns-in_err-journal-clause-refused g c =
    let asked = audit_in c.args.options.now in
    let flow = flow_to_audit asked in
    let p = err_from_is_err_and c.from_residual-in_err-journal.result c.from_residual-in_err-journal.ensures.1 in
    let found : Found = found_by_run c.in_ok-inputs.inputs in
    let with : Found = record found { answer = c.in_ok-answer.answer.items } in
    let same = c.in_ok-inputs.ensures.flow ∙ ap (λ (f : FlowAsked). flow_with f found.pipe) c.of_audit.ensures.flow in
    let read = reads_so _ _ _ c.of_audit.ensures.files _ c.in_ok-inputs.ensures.found in
    let text = rw c.read_inputs.ensures.files at c.in_ok-answer.ensures.text in
    let refused = rw (c.read_named.ensures.files, c.read_inputs.ensures.files) at c.in_err-journal.ensures.refused flow with same in
    rw (p.1, p.2) (refuses_second _ (files_of asked.events asked.config flow) (audited_files asked.out asked.journal flow) nothing_found found _ read
    (inr (with, (c.in_ok-answer.answer.items, text, refl), inl refused)))

pub returns-in_err-journal-clause-not_found : goal.returns-in_err-journal-clause-not_found
returns-in_err-journal-clause-not_found g c =
    let asked = audit_in c.args.options.now in
    let p = err_from_is_err_and c.from_residual-in_err-journal.result c.from_residual-in_err-journal.ensures.1 in
    let flow = flow_to_audit asked in
    rw (p.1, p.2) (λ five. (c.read_named.new.depot, asked.journal, named_second (files_of asked.events asked.config flow) (audited_files asked.out asked.journal flow) asked.journal (inr (inl refl)), c.in_err-journal.ensures.not_found five))

pub returns-clause-found : goal.returns-clause-found
returns-clause-found g c =
    let asked = audit_in c.args.options.now in
    let flow = flow_to_audit asked in
    let found : Found = found_by_run c.in_ok-inputs.inputs in
    let with : Found = record found { answer = c.in_ok-answer.answer.items } in
    let all : Found = record with { journal = map (λ v. v.items) c.in_ok-journal.journal.items } in
    let same = c.in_ok-inputs.ensures.flow ∙ ap (λ (f : FlowAsked). flow_with f found.pipe) c.of_audit.ensures.flow in
    let read = reads_so _ _ _ c.of_audit.ensures.files _ c.in_ok-inputs.ensures.found in
    let text = rw c.read_inputs.ensures.files at c.in_ok-answer.ensures.text in
    let journal = rw (c.read_named.ensures.files, c.read_inputs.ensures.files) at c.in_ok-journal.ensures.journal flow with same in
    reads_both _ (files_of asked.events asked.config flow) (audited_files asked.out asked.journal flow) nothing_found found all read
    (with, (c.in_ok-answer.answer.items, text, refl), (all, journal, refl))

pub returns-clause-flow : goal.returns-clause-flow
returns-clause-flow g c =
    c.in_ok-inputs.ensures.flow ∙ ap (λ (f : FlowAsked). flow_with f (found_by_run c.in_ok-inputs.inputs).pipe) c.of_audit.ensures.flow

pub returns-clause-workers : goal.returns-clause-workers
returns-clause-workers g c =
    let same = c.in_ok-inputs.ensures.flow ∙ ap (λ (f : FlowAsked). flow_with f (found_by_run c.in_ok-inputs.inputs).pipe) c.of_audit.ensures.flow in
    c.in_ok-journal.ensures.workers ∙ ap (λ (f : Flow). f.workers) same
