-- The answer comes first, then the report, and then the journal.
use Rattle.std.proofs.Common.{◌≡◌, ◌∷◌, [], ◌++◌, Some, map, refl}
use Rattle.std.proofs.lemmas.Result.{err_from_is_err_and}
use Rattle.mp_model.specs.Answers.{one_thread_answer}
use Rattle.mp_model.specs.Tables.{table_of}
use Rattle.mp_outside.proofs.SinkLemmas.{rose_later}
use Rattle.mp_report.specs.Journal.{journal_text}
use Rattle.mp_report.specs.Report.{IsReport}
use Rattle.mp_words.specs.Values.{options_in}
use Rattle.mp_command.specs.Writing.{Answer, IsTextOfJob, Journal, Report, answer_at, target_in}
use Rattle.mp_command.proofs.Parted.{all_both, one_as, part_as, some_first, some_second}
use Rattle.mp_run_command.specs.Keeping.{IsKeptOf}
use Rattle.mp_run_command.proofs.Targets.{no_save}
use Rattle.mp_run_command.proofs.writing.write_all.Goals as goal

pub returns-in_err-run-clause-writes : goal.returns-in_err-run-clause-writes
returns-in_err-run-clause-writes g c =
    let asked = options_in c.args.options.now in
    let job = c.args.job.now in
    let q = table_of g.Q.Query.facts job in
    let Is = IsTextOfJob q job (IsKeptOf q job asked) in
    let p = err_from_is_err_and c.from_residual.result c.from_residual.ensures.1 in
    let part = part_as Is (λ text. text ≡ one_thread_answer q job.events) Answer (Some asked.out) _ _ (λ some text is. is) c.in_err-run.ensures.leaves.part in
    rw (p.1, p.2) (record {
      wrote = no_save Is asked _ _ _ c.requires.no_save (record { whole = tt; part = some_first Is (answer_at asked.out ∷ []) (target_in Report asked.report ++ target_in Journal asked.journal) _ _ part });
      refused = c.in_err-run.ensures.leaves.refused;
      failed = c.in_err-run.ensures.leaves.failed;
    })

pub returns-in_err-report_to-clause-writes : goal.returns-in_err-report_to-clause-writes
returns-in_err-report_to-clause-writes g c =
    let asked = options_in c.args.options.now in
    let job = c.args.job.now in
    let q = table_of g.Q.Query.facts job in
    let Is = IsTextOfJob q job (IsKeptOf q job asked) in
    let p = err_from_is_err_and c.from_residual-in_err-report_to.result c.from_residual-in_err-report_to.ensures.1 in
    let part = part_as Is (IsReport q job) Report asked.report _ _ (λ some text is. is) c.in_err-report_to.ensures.part in
    let answer = c.in_ok-run.ensures.leaves in
    rw (p.1, p.2) (record {
      wrote = no_save Is asked _ _ _ c.requires.no_save (record {
        whole = tt;
        part = some_second Is (answer_at asked.out ∷ []) (target_in Report asked.report ++ target_in Journal asked.journal) _ _ _ (one_thread_answer q job.events, refl, answer.whole)
            (some_first Is (target_in Report asked.report) (target_in Journal asked.journal) _ _ part);
      });
      refused = c.in_err-report_to.ensures.refused;
      failed = λ seven. rose_later _ _ _ answer.faults_grow (c.in_err-report_to.ensures.failed seven);
    })

pub returns-in_err-journal_to-clause-writes : goal.returns-in_err-journal_to-clause-writes
returns-in_err-journal_to-clause-writes g c =
    let asked = options_in c.args.options.now in
    let job = c.args.job.now in
    let q = table_of g.Q.Query.facts job in
    let Is = IsTextOfJob q job (IsKeptOf q job asked) in
    let lists = map (λ v. v.items) c.in_ok-run.run'.kept.items in
    let p = err_from_is_err_and c.from_residual-in_err-journal_to.result c.from_residual-in_err-journal_to.ensures.1 in
    let report = one_as Is (IsReport q job) Report asked.report _ _ (λ some text is. is) c.in_ok-report_to.ensures.whole in
    let slice = rw c.as_slice-2.ensures.value at c.in_err-journal_to.ensures.part in
    let part = part_as Is (λ text. text ≡ journal_text lists) Journal asked.journal _ _ (λ some text is. (lists, c.in_ok-run.ensures.tells.kept some, is)) slice in
    let answer = c.in_ok-run.ensures.leaves in
    rw (p.1, p.2) (record {
      wrote = no_save Is asked _ _ _ c.requires.no_save (record {
        whole = tt;
        part = some_second Is (answer_at asked.out ∷ []) (target_in Report asked.report ++ target_in Journal asked.journal) _ _ _ (one_thread_answer q job.events, refl, answer.whole)
            (some_second Is (target_in Report asked.report) (target_in Journal asked.journal) _ _ _ report part);
      });
      refused = c.in_err-journal_to.ensures.refused;
      failed = λ seven. rose_later _ _ _ answer.faults_grow (rose_later _ _ _ c.in_ok-report_to.ensures.faults_grow (c.in_err-journal_to.ensures.failed seven));
    })

pub returns-clause-writes : goal.returns-clause-writes
returns-clause-writes g c =
    let asked = options_in c.args.options.now in
    let job = c.args.job.now in
    let q = table_of g.Q.Query.facts job in
    let Is = IsTextOfJob q job (IsKeptOf q job asked) in
    let lists = map (λ v. v.items) c.in_ok-run.run'.kept.items in
    let report = one_as Is (IsReport q job) Report asked.report _ _ (λ some text is. is) c.in_ok-report_to.ensures.whole in
    let slice = rw c.as_slice-2.ensures.value at c.in_ok-journal_to.ensures.whole in
    let journal = one_as Is (λ text. text ≡ journal_text lists) Journal asked.journal _ _ (λ some text is. (lists, c.in_ok-run.ensures.tells.kept some, is)) slice in
    record {
      wrote = no_save Is asked _ _ _ c.requires.no_save (record {
        whole = all_both Is (answer_at asked.out ∷ []) (target_in Report asked.report ++ target_in Journal asked.journal) _ _ _ (one_thread_answer q job.events, refl, c.in_ok-run.ensures.leaves.whole)
            (all_both Is (target_in Report asked.report) (target_in Journal asked.journal) _ _ _ report journal);
        part = tt;
      });
      refused = tt;
      failed = tt;
    }
