-- The answer comes first, and then the report.
use Rattle.std.proofs.Common.{◌≡◌, ◌∷◌, [], ◌++◌, Some, refl}
use Rattle.std.proofs.lemmas.Result.{err_from_is_err_and, on_err_weaker, on_ok_weaker}
use Rattle.mp_model.specs.Answers.{one_thread_answer}
use Rattle.mp_model.specs.Tables.{table_of}
use Rattle.mp_report.specs.Report.{IsReport}
use Rattle.mp_words.specs.Values.{options_in}
use Rattle.mp_command.specs.Writing.{Answer, IsTextOfRest, Report, answer_at, target_in}
use Rattle.mp_command.proofs.Parted.{all_both, one_as, part_as, some_first, some_second}
use Rattle.mp_run_command.proofs.Handed.{failed_later}
use Rattle.mp_run_command.proofs.Targets.{of_rest}
use Rattle.mp_run_command.proofs.resuming.write_rest.Goals as goal

pub returns-in_err-run : goal.returns-in_err-run
returns-in_err-run g c =
    let asked = options_in c.args.options.now in
    let job = c.args.job.now in
    let q = table_of g.Q.Query.facts job in
    let Is = IsTextOfRest g.Q.Query.facts job in
    let p = err_from_is_err_and c.from_residual.result c.from_residual.ensures.1 in
    let part = part_as Is (λ text. text ≡ one_thread_answer q job.events) Answer (Some asked.out) _ _ (λ some text is. is) c.in_err-run.ensures.leaves.part in
    rw (p.1, p.2) (record {
      wrote = of_rest Is asked _ _ _ c.args.name.now c.requires.options.span c.requires.span (record { whole = tt; part = some_first Is (answer_at asked.out ∷ []) (target_in Report asked.report ++ []) _ _ part });
      refused = c.in_err-run.ensures.leaves.refused;
      failed = c.in_err-run.ensures.leaves.failed;
    })

pub returns : goal.returns
returns g c =
    let asked = options_in c.args.options.now in
    let job = c.args.job.now in
    let q = table_of g.Q.Query.facts job in
    let Is = IsTextOfRest g.Q.Query.facts job in
    let report = c.report_to.ensures in
    let answer = c.in_ok-run.ensures.leaves in
    record {
      wrote = of_rest Is asked c.report_to.result _ _ c.args.name.now c.requires.options.span c.requires.span (record {
        whole = on_ok_weaker c.report_to.result (λ w. all_both Is (answer_at asked.out ∷ []) (target_in Report asked.report ++ []) _ _ _ (one_thread_answer q job.events, refl, answer.whole)
            (all_both Is (target_in Report asked.report) [] _ _ _ (one_as Is (IsReport q job) Report asked.report _ _ (λ some text is. is) w) refl)) report.whole;
        part = on_err_weaker c.report_to.result (λ w. some_second Is (answer_at asked.out ∷ []) (target_in Report asked.report ++ []) _ _ _ (one_thread_answer q job.events, refl, answer.whole)
            (some_first Is (target_in Report asked.report) [] _ _ (part_as Is (IsReport q job) Report asked.report _ _ (λ some text is. is) w))) report.part;
      });
      refused = report.refused;
      failed = failed_later _ _ _ c.report_to.result answer.faults_grow report.failed;
    }
