-- The sink got a beginning of what the buffer got, and once it is flushed all of that.
use Rattle.std.proofs.Common.{◌∙◌, arith, inr, refl, rules, sym}
use Rattle.std.proofs.lemmas.Result.{err_from_is_err_and, on_err_weaker, on_ok_weaker}
use Rattle.mp_buffered.proofs.Front.{same_beside, same_lender}
use Rattle.mp_outside.proofs.SinkLemmas.{grown-nothing}
use Rattle.mp_output.proofs.Writing.{on_err}
use Rattle.mp_run_command.proofs.Handed.{failed_once, reached, stopped_once, told_once, whole_once}
use Rattle.mp_run_command.proofs.stopping.stop_gathered.Goals as goal

pub returns-in_err-waits-clause-leaves : goal.returns-in_err-waits-clause-leaves
returns-in_err-waits-clause-leaves g c =
    let p = err_from_is_err_and c.from_residual.result c.from_residual.ensures.1 in
    rw (p.1, p.2) (record {
      whole = tt;
      part = (0, sym (grown-nothing _));
      refused = inr refl;
      failed = λ eight. absurd (omega (arith, eight));
      appends = record { same_frame = refl; faults_grow = omega arith };
    })

pub returns-clause-tells : goal.returns-clause-tells
returns-clause-tells g c = told_once _ _ _ _ c.once_flushed.ensures c.stop_into-ran.ensures.tells

pub returns-clause-leaves : goal.returns-clause-leaves
returns-clause-leaves g c =
    let ran = c.stop_into-ran.ensures.leaves in
    let flushed = c.flush-flushed.ensures in
    let lender = same_lender _ _ _ _ ran.appends.same_frame in
    let beside = flushed.appends_only.same_frame ∙ same_beside _ _ _ _ ran.appends.same_frame in
    let first = ran.appends.faults_grow in
    let then = flushed.appends_only.faults_grow in
    record {
      whole = on_ok_weaker c.once_flushed.result (λ both.
          let here = rw (c.new-front.ensures.none_waits, grown-nothing, c.new-front.ensures.sink) at both.0 in
          let made = both.1 ∙ here in
          search rules)
          (whole_once _ _ c.stop_into-ran.result c.flush-flushed.result c.once_flushed.result c.once_flushed.ensures ran.whole flushed.whole);
      part =
          let whole = on_ok_weaker c.stop_into-ran.result (λ all. rw (c.new-front.ensures.none_waits, grown-nothing, c.new-front.ensures.sink) at all) ran.whole in
          let part = on_err_weaker c.stop_into-ran.result (λ some. (some.0, rw (c.new-front.ensures.none_waits, grown-nothing, c.new-front.ensures.sink) at some.1)) ran.part in
          let got = reached c.stop_into-ran.result _ _ _ _ _ c.requires.begun flushed.same_written whole part in
          on_err c.once_flushed.result (got.0, search rules);
      refused = stopped_once c.stop_into-ran.result c.flush-flushed.result c.once_flushed.result c.once_flushed.ensures ran.refused;
      failed =
          let rose = failed_once _ _ _ c.stop_into-ran.result c.flush-flushed.result c.once_flushed.result c.once_flushed.ensures first then ran.failed flushed.cause in
          let here = rw (c.new-front.ensures.sink) at rose in
          search rules;
      appends = record { same_frame = search rules; faults_grow = search rules };
    }
