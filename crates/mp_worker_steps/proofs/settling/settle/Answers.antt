use Rattle.std.proofs.Common.{ap, refl}
use Rattle.mp_names.specs.declared.names.Name.TheVariants.{Settled}
use Rattle.mp_names.specs.declared.kinds.Kind.TheVariants.{Settle}
use Rattle.mp_handoff.specs.MoversState.{MoversState}
use Rattle.mp_worker_invariant.proofs.Items.{again_there}
use Rattle.mp_worker_invariant.proofs.Standing.{movers_at}
use Rattle.mp_worker_steps.proofs.Settled.{can_settle, none_to_settle, settled_counted, settled_kept}
use Rattle.mp_worker_parts.specs.Contents.{worker_of}
use Rattle.mp_worker_parts.proofs.Keeping.{can_do, kept_as, makes}
use Rattle.mp_worker_steps.proofs.settling.settle.Goals as goal

pub returns-in_default : goal.returns-in_default
returns-in_default g c =
    let kept = c.parts.invariant in
    let at = movers_at kept.parts c.args.stage c.requires.stage c.index_mut-movers.result.now c.index_mut-movers.ensures.value in
    (rw (← c.parts.view_is) (λ x can. none_to_settle kept.sound kept.parts c.args.stage _ at c.in_default.ensures.none_may x (can_do kept (Settle c.args.stage) x can)), rw c.in_ok-make_room.ensures.made (ap worker_of c.parts.view_is))

pub push-requires : goal.push-requires
push-requires g c =
    let at = movers_at c.parts.invariant.parts c.args.stage c.requires.stage c.index_mut-movers.result.now c.index_mut-movers.ensures.value in
    record { changes = rw (c.in_ok-make_room.ensures.made, c.one_less.ensures) (settled_counted c.parts.invariant.sound c.parts.invariant.parts c.args.stage _ at c.in-Some.time c.in-Some.ensures.may_settle) }

pub invariant_of-parts-2 : goal.invariant_of-parts-2
invariant_of-parts-2 g c =
    let kept = c.parts.invariant in
    let at = movers_at kept.parts c.args.stage c.requires.stage c.index_mut-movers.result.now c.index_mut-movers.ensures.value in
    let same = c.in-Some.ensures.same in
    let next = settled_kept kept.sound kept.parts c.args.stage _ at c.in-Some.time c.in-Some.ensures.may_settle c.settle.new.self (ap (λ (n : MoversState). n.stage) same) (ap (λ (n : MoversState). n.worker) same) c.in-Some.ensures.held in
    rw (c.in_ok-push.ensures.pushed, c.in_ok-make_room.ensures.made) (kept_as kept next)

pub returns : goal.returns
returns g c =
    let kept = c.parts.invariant in
    let at = movers_at kept.parts c.args.stage c.requires.stage c.index_mut-movers.result.now c.index_mut-movers.ensures.value in
    let can = can_settle kept.sound kept.parts c.args.stage _ at c.in-Some.time c.in-Some.ensures.may_settle in
    rw (← c.parts.view_is, c.in_ok-push.ensures.pushed, c.in_ok-make_room.ensures.made) (makes kept (Settle c.args.stage) (Settled c.args.stage c.in-Some.time) c.requires.stage can refl _ refl)

pub invariant_of-parts : goal.invariant_of-parts
invariant_of-parts g c = rw c.in_err-make_room.ensures.unchanged c.parts.invariant

pub invariant_of-parts-in_default : goal.invariant_of-parts-in_default
invariant_of-parts-in_default g c =
    let same = again_there c.parts.inside.movers.items c.args.stage c.index_mut-movers.result.now c.settle.new.self c.index_mut-movers.ensures.value c.in_default.ensures.unchanged in
    rw (c.in_ok-make_room.ensures.made, same) c.parts.invariant
