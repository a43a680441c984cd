-- A run ends as that of its span.
use Rattle.std.proofs.Common.{Err, Ok, ap, refl}
use Rattle.std.proofs.lemmas.Result.{err_from_is_err_and}
use Rattle.mp_control.specs.Settings.{settings_in}
use Rattle.mp_words.specs.Values.{options_in, span_in}
use Rattle.mp_run_command.specs.Jobs.{job_by}
use Rattle.mp_run_command.proofs.Ended.{refuted_ends, rest_ends, short_ends, stop_ends, whole_ends}
use Rattle.mp_run_command.proofs.writing.write_saved.Goals as goal

pub returns-in_err-run_asked-in-Whole : goal.returns-in_err-run_asked-in-Whole
returns-in_err-run_asked-in-Whole g c =
    let asked = options_in c.args.options.now in
    let job = job_by g.Q.Query.facts (g.Q.Query.rules c.args.given) (g.Q.Query.values c.args.given) asked c.args.parts.events.items (settings_in c.args.parts.settings) in
    let p = err_from_is_err_and c.from_residual.result c.from_residual.ensures.1 in
    let stop = c.in_err-run_asked-in-Whole.ensures.writes in
    rw (p.1, p.2) (whole_ends g.D.Depot.files g.D.Depot.write_faults g.Q.Saved.NUMBER g.Q.Query.text_of g.Q.Query.facts job.values c.args.parts.checkpoint.items job asked _ _ (Err _) (ap span_in c.in-Whole.is) (record {
      wrote = record { whole = tt; part = stop.wrote.part };
      refused = stop.refused;
      failed = stop.failed;
    }))

pub returns-in_ok-run_asked-in-Whole : goal.returns-in_ok-run_asked-in-Whole
returns-in_ok-run_asked-in-Whole g c =
    let asked = options_in c.args.options.now in
    let job = job_by g.Q.Query.facts (g.Q.Query.rules c.args.given) (g.Q.Query.values c.args.given) asked c.args.parts.events.items (settings_in c.args.parts.settings) in
    whole_ends g.D.Depot.files g.D.Depot.write_faults g.Q.Saved.NUMBER g.Q.Query.text_of g.Q.Query.facts job.values c.args.parts.checkpoint.items job asked _ _ (Ok _) (ap span_in c.in-Whole.is) (record {
      wrote = record { whole = c.in_ok-run_asked-in-Whole.ensures.writes.wrote.whole; part = tt };
      refused = tt;
      failed = tt;
    })

pub returns-in_err-job-in-Until : goal.returns-in_err-job-in-Until
returns-in_err-job-in-Until g c =
    let asked = options_in c.args.options.now in
    let job = job_by g.Q.Query.facts (g.Q.Query.rules c.args.given) (g.Q.Query.values c.args.given) asked c.args.parts.events.items (settings_in c.args.parts.settings) in
    let p = err_from_is_err_and c.from_residual-in_err-job-in-Until.result c.from_residual-in_err-job-in-Until.ensures.1 in
    rw (p.1, p.2) (short_ends g.D.Depot.files g.D.Depot.write_faults g.Q.Saved.NUMBER g.Q.Query.text_of g.Q.Query.facts job.values c.args.parts.checkpoint.items job asked c.args.depot.now)

pub returns-in_ok-job-in-Until : goal.returns-in_ok-job-in-Until
returns-in_ok-job-in-Until g c =
    let asked = options_in c.args.options.now in
    let job = job_by g.Q.Query.facts (g.Q.Query.rules c.args.given) (g.Q.Query.values c.args.given) asked c.args.parts.events.items (settings_in c.args.parts.settings) in
    stop_ends g.D.Depot.files g.D.Depot.write_faults g.Q.Saved.NUMBER g.Q.Query.text_of g.Q.Query.facts job.values c.args.parts.checkpoint.items job asked _ _ c.write_stopped-ended.result _ _ (ap span_in c.in-Until.is) refl
    c.in_ok-job-in-Until.job c.in_ok-job-in-Until.ensures c.write_stopped-ended.ensures

pub returns-in_err-job-in-From : goal.returns-in_err-job-in-From
returns-in_err-job-in-From g c =
    let asked = options_in c.args.options.now in
    let job = job_by g.Q.Query.facts (g.Q.Query.rules c.args.given) (g.Q.Query.values c.args.given) asked c.args.parts.events.items (settings_in c.args.parts.settings) in
    let p = err_from_is_err_and c.from_residual-in_err-job-in-From.result c.from_residual-in_err-job-in-From.ensures.1 in
    rw (p.1, p.2) (refuted_ends g.D.Depot.files g.D.Depot.write_faults g.Q.Saved.NUMBER g.Q.Query.text_of g.Q.Query.facts job.values c.args.parts.checkpoint.items job asked c.args.depot.now _ _ (ap span_in c.in-From.is) c.in_err-job-in-From.ensures.refused)

pub returns-in_ok-job-in-From : goal.returns-in_ok-job-in-From
returns-in_ok-job-in-From g c =
    let asked = options_in c.args.options.now in
    let job = job_by g.Q.Query.facts (g.Q.Query.rules c.args.given) (g.Q.Query.values c.args.given) asked c.args.parts.events.items (settings_in c.args.parts.settings) in
    let made = c.in_ok-job-in-From.ensures.job in
    rest_ends g.D.Depot.files g.D.Depot.write_faults g.Q.Saved.NUMBER g.Q.Query.text_of g.Q.Query.facts job.values c.args.parts.checkpoint.items job asked _ _ c.write_rest-ended.result _ (ap span_in c.in-From.is) made.0 made.1
    c.in_ok-job-in-From.job made.2 c.write_rest-ended.ensures
