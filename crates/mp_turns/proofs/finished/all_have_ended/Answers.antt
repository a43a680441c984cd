use Rattle.std.proofs.Common.{ℕ, ◌<◌, arith, rules}
use Rattle.mp_turns.proofs.Ended.{all_of_both, others_of_all, stage_of_all}
use Rattle.mp_turns.proofs.finished.all_have_ended.Goals as goal

pub returns-then-not-stage_has_ended : goal.returns-then-not-stage_has_ended
returns-then-not-stage_has_ended c =
    (λ e. search rules, λ all. c.if-not-stage_has_ended.ensures.1 (stage_of_all c.args.until c.args.stages c.args.seen.now all c.loop-stage.stage c.loop-stage-test.true))

pub returns : goal.returns
returns c =
    let stages = λ (j : ℕ) (l : j < c.args.stages). c.loop-stage.invariant j (omega arith) in
    (λ e. all_of_both c.args.until c.args.stages c.args.seen.now stages (c.others_have_ended.ensures.0 e), λ all. c.others_have_ended.ensures.1 (others_of_all c.args.until c.args.stages c.args.seen.now all))
