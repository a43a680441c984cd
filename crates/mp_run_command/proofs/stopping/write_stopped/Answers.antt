-- The answer comes first, then the report, and then what is saved.
use Rattle.std.proofs.Common.{◌≡◌, ◌∙◌, ◌∷◌, [], ◌++◌, Some}
use Rattle.std.proofs.lemmas.Result.{err_from_is_err_and, on_err_weaker, on_ok_weaker}
use Rattle.mp_model.specs.Answers.{one_thread_answer}
use Rattle.mp_model.specs.Tables.{table_of}
use Rattle.mp_outside.proofs.SinkLemmas.{rose_later}
use Rattle.mp_report.specs.Report.{IsReport}
use Rattle.mp_restart_laws.proofs.OfJobs.{job_stops}
use Rattle.mp_words.specs.Values.{options_in}
use Rattle.mp_command.specs.Spans.{IsSaveOf}
use Rattle.mp_command.specs.Writing.{Answer, IsTextOfStop, Report, answer_at, save_at, target_in}
use Rattle.mp_command.proofs.Parted.{all_both, one_as, part_as, some_first, some_second}
use Rattle.mp_run_command.proofs.Handed.{failed_later}
use Rattle.mp_run_command.proofs.Targets.{all_saved, some_saved, with_save}
use Rattle.mp_run_command.proofs.stopping.write_stopped.Goals as goal

pub returns-in_err-run : goal.returns-in_err-run
returns-in_err-run g c =
    let laws = g.met.Q.Query g.world.𝓛 g.world.𝓜 g.world.𝓡 ((λ s x. x), (λ x. x), (λ x. x), λ x. x) in
    let asked = options_in c.args.options.now in
    let job = c.args.job.now in
    let t = c.args.plan.time in
    let q = table_of g.Q.Query.facts job in
    let Is = IsTextOfStop g.Q.Saved.NUMBER g.Q.Query.text_of g.Q.Query.facts job.values job t in
    let lines = (job_stops g.Q.Query.facts job (laws.begins_fresh job.values) (laws.posts_are_later job.values) (laws.later_stages_post_nothing job.values) c.requires.events t c.requires.stops c.requires.fresh).answer in
    let p = err_from_is_err_and c.from_residual.result c.from_residual.ensures.1 in
    let part = part_as Is (λ text. text ≡ one_thread_answer q job.events) Answer (Some asked.out) _ _ (λ some text is. is ∙ lines) c.in_err-run.ensures.leaves.part in
    rw (p.1, p.2) (record {
      wrote = with_save Is asked _ _ _ t c.args.plan.save.now c.requires.options.span c.requires.span
          (record { whole = tt; part = some_first Is (answer_at asked.out ∷ []) (target_in Report asked.report ++ save_at c.args.plan.save.now ∷ []) _ _ part });
      refused = c.in_err-run.ensures.leaves.refused;
      failed = c.in_err-run.ensures.leaves.failed;
    })

pub returns-in_err-report_to : goal.returns-in_err-report_to
returns-in_err-report_to g c =
    let laws = g.met.Q.Query g.world.𝓛 g.world.𝓜 g.world.𝓡 ((λ s x. x), (λ x. x), (λ x. x), λ x. x) in
    let asked = options_in c.args.options.now in
    let job = c.args.job.now in
    let t = c.args.plan.time in
    let save = c.args.plan.save.now in
    let q = table_of g.Q.Query.facts job in
    let Is = IsTextOfStop g.Q.Saved.NUMBER g.Q.Query.text_of g.Q.Query.facts job.values job t in
    let lines = (job_stops g.Q.Query.facts job (laws.begins_fresh job.values) (laws.posts_are_later job.values) (laws.later_stages_post_nothing job.values) c.requires.events t c.requires.stops c.requires.fresh).answer in
    let p = err_from_is_err_and c.from_residual-in_err-report_to.result c.from_residual-in_err-report_to.ensures.1 in
    let part = part_as Is (IsReport q job) Report asked.report _ _ (λ some text is. is) c.in_err-report_to.ensures.part in
    let answer = c.in_ok-run.ensures.leaves in
    rw (p.1, p.2) (record {
      wrote = with_save Is asked _ _ _ t save c.requires.options.span c.requires.span (record {
        whole = tt;
        part = some_second Is (answer_at asked.out ∷ []) (target_in Report asked.report ++ save_at save ∷ []) _ _ _ (one_thread_answer q job.events, lines, answer.whole)
            (some_first Is (target_in Report asked.report) (save_at save ∷ []) _ _ part);
      });
      refused = c.in_err-report_to.ensures.refused;
      failed = λ seven. rose_later _ _ _ answer.faults_grow (c.in_err-report_to.ensures.failed seven);
    })

pub returns : goal.returns
returns g c =
    let laws = g.met.Q.Query g.world.𝓛 g.world.𝓜 g.world.𝓡 ((λ s x. x), (λ x. x), (λ x. x), λ x. x) in
    let asked = options_in c.args.options.now in
    let job = c.args.job.now in
    let t = c.args.plan.time in
    let save = c.args.plan.save.now in
    let q = table_of g.Q.Query.facts job in
    let Is = IsTextOfStop g.Q.Saved.NUMBER g.Q.Query.text_of g.Q.Query.facts job.values job t in
    let Saves = IsSaveOf g.Q.Saved.NUMBER g.Q.Query.text_of g.Q.Query.facts job.values job.events t in
    let lines = (job_stops g.Q.Query.facts job (laws.begins_fresh job.values) (laws.posts_are_later job.values) (laws.later_stages_post_nothing job.values) c.requires.events t c.requires.stops c.requires.fresh).answer in
    let report = one_as Is (IsReport q job) Report asked.report _ _ (λ some text is. is) c.in_ok-report_to.ensures.whole in
    let answer = c.in_ok-run.ensures.leaves in
    record {
      wrote = with_save Is asked c.save_to.result _ _ t save c.requires.options.span c.requires.span (record {
        whole = on_ok_weaker c.save_to.result (λ w. all_both Is (answer_at asked.out ∷ []) (target_in Report asked.report ++ save_at save ∷ []) _ _ _ (one_thread_answer q job.events, lines, answer.whole)
            (all_both Is (target_in Report asked.report) (save_at save ∷ []) _ _ _ report (all_saved Is Saves save _ _ (λ text is. is) w))) c.save_to.ensures.whole;
        part = on_err_weaker c.save_to.result (λ w. some_second Is (answer_at asked.out ∷ []) (target_in Report asked.report ++ save_at save ∷ []) _ _ _ (one_thread_answer q job.events, lines, answer.whole)
            (some_second Is (target_in Report asked.report) (save_at save ∷ []) _ _ _ report (some_saved Is Saves save _ _ (λ text is. is) w))) c.save_to.ensures.part;
      });
      refused = c.save_to.ensures.refused;
      failed = failed_later _ _ _ c.save_to.result answer.faults_grow (failed_later _ _ _ c.save_to.result c.in_ok-report_to.ensures.faults_grow c.save_to.ensures.failed);
    }
