use Rattle.std.proofs.Common.{◌≤◌, ℕ, add-one, rules, subst, sym}
use Rattle.mp_names.specs.Frontiers.{IsFrontierOf}
use Rattle.mp_stamps.specs.Counts.{count_in}
use Rattle.mp_stamps.specs.Flow.{origin_of}
use Rattle.mp_stamps.proofs.Tables.{location_later}
use Rattle.mp_stamps.proofs.seen.last_origin.Goals as goal

pub loop-stage-preserved : goal.loop-stage-preserved
loop-stage-preserved c =
    let j = c.loop-stage.stage in
    subst (λ (k : ℕ). IsFrontierOf (count_in c.args.counts.now) (origin_of k) c.of_stage-last.result.host) (sym (add-one j)) c.of_stage-last.ensures.host

pub returns : goal.returns
returns c =
    let past : c.stages-stage-end.result ≤ c.loop-stage.stage = search rules in
    (c.loop-stage.stage, λ at t none. c.stages-stage-end.ensures.none_elsewhere at t (λ h. none (location_later c.stages-stage-end.result c.loop-stage.stage at past h)), c.loop-stage.invariant)
