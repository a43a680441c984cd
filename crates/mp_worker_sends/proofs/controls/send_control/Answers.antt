use Rattle.std.proofs.Common.{◌∙◌, ◌∷◌, [], refl, subst, sym}
use Rattle.mp_names.specs.declared.kinds.Kind.TheVariants.{SendControl}
use Rattle.mp_names.specs.declared.names.Name.TheVariants.{Ctrl}
use Rattle.mp_names.specs.Names.{is_ctrl}
use Rattle.mp_controller.specs.Controlling.{GoesNow}
use Rattle.mp_worker_sends.proofs.SentControls.{can_send_control, control_counted, control_kept, no_control_goes, one_control}
use Rattle.mp_worker_refinement.proofs.Alone.{post_same}
use Rattle.mp_worker_refinement.proofs.Pushed.{held_may}
use Rattle.mp_worker_parts.proofs.Keeping.{can_do, its_controls, kept_by, makes_all}
use Rattle.mp_worker_sends.proofs.controls.send_control.Goals as goal

pub returns-in_err-make_room-clause-mail : goal.returns-in_err-make_room-clause-mail
returns-in_err-make_room-clause-mail g c = rw (← c.parts.view_is, c.in_err-make_room.ensures.unchanged) (post_same _ _ _ _ _ _ _ _ _ _ refl refl)

pub returns-in_default-clause-steps : goal.returns-in_default-clause-steps
returns-in_default-clause-steps g c =
    let kept = c.parts.invariant in
    rw (← c.parts.view_is, c.in_ok-make_room.ensures.made) ((λ x can. absurd (no_control_goes kept.sound kept.parts (λ first y goes. c.in_default.ensures.none y goes) x (can_do kept SendControl x can))), refl)

pub returns-in_default-clause-mail : goal.returns-in_default-clause-mail
returns-in_default-clause-mail g c = rw (← c.parts.view_is, c.in_ok-make_room.ensures.made) (post_same _ _ _ _ _ _ _ _ _ _ refl refl)

pub returns-then-worker-ne0-clause-mail : goal.returns-then-worker-ne0-clause-mail
returns-then-worker-ne0-clause-mail g c = rw (← c.parts.view_is, c.in_ok-make_room.ensures.made) (post_same _ _ _ _ _ _ _ _ _ _ refl refl)

pub invariant_of-parts : goal.invariant_of-parts
invariant_of-parts g c = rw c.in_err-make_room.ensures.unchanged c.parts.invariant

pub send-requires-clause-outline : goal.send-requires-clause-outline
send-requires-clause-outline g c κs within = c.parts.invariant.sound

pub send-requires-clause-worker : goal.send-requires-clause-worker
send-requires-clause-worker g c κs within = rw c.in_ok-make_room.ensures.made c.parts.invariant.parts.worker

pub send-requires-clause-at_post : goal.send-requires-clause-at_post
send-requires-clause-at_post g c κs within = rw c.in_ok-make_room.ensures.made (rw (← c.parts.view_is) at c.requires.at_post)

pub invariant_of-parts-in_default-send : goal.invariant_of-parts-in_default-send
invariant_of-parts-in_default-send g c =
    let kept = c.parts.invariant in
    let made = c.in_ok-make_room.ensures.made in
    let e = c.in_default-send.ensures in
    kept_by kept c.send.new.log (rw made at e.worker) (rw made at e.unchanged) kept.parts

pub send-requires-clause-may : goal.send-requires-clause-may
send-requires-clause-may g c κs within =
    let kept = c.parts.invariant in
    let first = sym (rw c.in_ok-make_room.ensures.made at c.worker.ensures) ∙ c.if-worker-ne0.false in
    let goes = subst (GoesNow _ _) c.in-Ctrl.is c.in-Some.ensures.some in
    rw (c.in_ok-make_room.ensures.made, c.control-message.ensures) (held_may _ kept.sound _ _ kept.parts.legal is_ctrl _ (can_send_control kept.sound kept.parts first c.in-Ctrl.index c.in-Ctrl.to goes).0.0.0)

pub send-requires-clause-changes : goal.send-requires-clause-changes
send-requires-clause-changes g c κs within =
    let kept = c.parts.invariant in
    let first = sym (rw c.in_ok-make_room.ensures.made at c.worker.ensures) ∙ c.if-worker-ne0.false in
    let goes = subst (GoesNow _ _) c.in-Ctrl.is c.in-Some.ensures.some in
    let all = c.controls.ensures ∙ its_controls kept in
    rw (c.in_ok-make_room.ensures.made, c.control-message.ensures, c.one_less.ensures, c.one_more.ensures, all) (control_counted kept.sound kept.parts first c.in-Ctrl.index c.in-Ctrl.to goes)

pub returns-in_default-send : goal.returns-in_default-send
returns-in_default-send g c =
    let kept = c.parts.invariant in
    let first = sym (rw c.in_ok-make_room.ensures.made at c.worker.ensures) ∙ c.if-worker-ne0.false in
    let goes = subst (GoesNow _ _) c.in-Ctrl.is c.in-Some.ensures.some in
    let made = c.in_ok-make_room.ensures.made in
    let e = c.in_default-send.ensures in
    let full = rw made at e.full in
    let one = one_control kept.sound kept.parts first c.in-Ctrl.index c.in-Ctrl.to goes in
    rw (← c.parts.view_is)
    (record { steps = ((λ x can. rw (← one x (can_do kept SendControl x can)) full), rw (rw made at e.worker, rw made at e.unchanged) refl); mail = rw made at e.mail })

pub invariant_of-parts-2 : goal.invariant_of-parts-2
invariant_of-parts-2 g c =
    let kept = c.parts.invariant in
    let first = sym (rw c.in_ok-make_room.ensures.made at c.worker.ensures) ∙ c.if-worker-ne0.false in
    let goes = subst (GoesNow _ _) c.in-Ctrl.is c.in-Some.ensures.some in
    let sent = rw (c.in_ok-make_room.ensures.made, c.control-message.ensures) at c.in-Ok.ensures.sent in
    rw c.sent.ensures (kept_by kept c.send.new.log (rw c.in_ok-make_room.ensures.made at c.in-Ok.ensures.worker) sent (control_kept kept.sound kept.parts first c.in-Ctrl.index c.in-Ctrl.to goes))

pub returns : goal.returns
returns g c =
    let kept = c.parts.invariant in
    let first = sym (rw c.in_ok-make_room.ensures.made at c.worker.ensures) ∙ c.if-worker-ne0.false in
    let goes = subst (GoesNow _ _) c.in-Ctrl.is c.in-Some.ensures.some in
    let x = Ctrl c.in-Ctrl.index c.in-Ctrl.to in
    let made = c.in_ok-make_room.ensures.made in
    let e = c.in-Ok.ensures in
    let sent = rw (made, c.control-message.ensures) at e.sent in
    let makes = makes_all kept SendControl x tt (can_send_control kept.sound kept.parts first c.in-Ctrl.index c.in-Ctrl.to goes) (x ∷ []) refl c.send.new.log.log sent in
    rw (← c.parts.view_is, rw made at e.worker)
    (record { steps = record { names = x ∷ []; tells = rw c.control-message.ensures at e.names; makes = makes; allows = rw made at e.room }; mail = rw made at e.mail })
