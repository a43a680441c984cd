use Rattle.std.proofs.Common.{◌≡◌, ℕ, ◌+◌, add-one, ap, arith, subst, sym}
use Rattle.mp_player_laws.specs.WorkLeft.{added_below}
use Rattle.mp_work_lists.specs.Parts.{HasMore, stage_work}
use Rattle.mp_work_lists.proofs.Growing.{as_much, more_and_more, no_more}
use Rattle.mp_work_lists.proofs.parts.add_stages.Goals as goal

pub loop-stage-init : goal.loop-stage-init
loop-stage-init g c = no_more c.args.works.now.items

pub loop-stage-preserved : goal.loop-stage-preserved
loop-stage-preserved g c =
    let o = g.L.OutlineLists.outline c.args.lists.now in
    let i = c.loop-stage.stage in
    as_much (λ a t. added_below i (λ j. stage_work o j a t) + stage_work o i a t) (λ a t. added_below (i + 1) (λ j. stage_work o j a t)) _ _
    (λ a t. sym (ap (λ (n : ℕ). added_below n (λ j. stage_work o j a t)) (add-one i)))
    (more_and_more (λ a t. added_below i (λ j. stage_work o j a t)) (stage_work o i) _ _ _ c.loop-stage.invariant c.in_ok-add_stage.ensures)

pub returns : goal.returns
returns g c =
    let o = g.L.OutlineLists.outline c.args.lists.now in
    let all : c.loop-stage.stage ≡ o.stages = omega arith in
    subst (λ (n : ℕ). HasMore (λ a t. added_below n (λ j. stage_work o j a t)) c.args.works.now.items c.loop-stage.works.items) all c.loop-stage.invariant
