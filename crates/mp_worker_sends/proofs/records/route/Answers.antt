use Rattle.std.proofs.Common.{◌∙◌, All, ap, refl, subst, sym, ℕ}
use Rattle.mp_names.specs.declared.kinds.Kind.TheVariants.{Route}
use Rattle.mp_names.specs.Names.{is_rec}
use Rattle.mp_names.specs.Keeping.{IsHeld}
use Rattle.mp_names.proofs.Orders.{least_unique}
use Rattle.mp_outline.specs.JobOutline.{outline_of}
use Rattle.mp_msg.specs.Bundles.{names_in, receiver_of}
use Rattle.mp_msg.specs.Contents.{IsRecordOf}
use Rattle.mp_worker_parts.specs.Below.{again_there}
use Rattle.mp_worker_parts.specs.Below.{other_router}
use Rattle.mp_worker_parts.specs.Below.{back, gone, none_goes, owners_known, same_bundle}
use Rattle.mp_worker_parts.specs.Below.{router_at, steps, told}
use Rattle.mp_worker_refinement.proofs.Alone.{post_same}
use Rattle.mp_worker_parts.proofs.Keeping.{can_do, kept_by, makes_all}
use Rattle.mp_worker_sends.proofs.Bundled.{bundle_changes, bundle_may, given_up, receiver_is}
use Rattle.mp_worker_sends.proofs.records.route.Goals as goal
use Rattle.mp_model.specs.Tables.{table_of}

pub send_some-requires-clause-owners : goal.send_some-requires-clause-owners
send_some-requires-clause-owners g c κs within =
    let kept = c.parts.invariant in
    owners_known kept.sound kept.parts c.args.stage _ (router_at kept.parts c.args.stage c.requires.stage c.index_mut-router.result.now c.index_mut-router.ensures.value).0

pub returns-in_err-make_room-clause-mail : goal.returns-in_err-make_room-clause-mail
returns-in_err-make_room-clause-mail g c = rw (← c.parts.view_is, c.in_err-make_room.ensures.unchanged) (post_same _ _ _ _ _ _ _ _ _ _ refl refl)

pub returns-in_err-bundle-clause-mail : goal.returns-in_err-bundle-clause-mail
returns-in_err-bundle-clause-mail g c = rw (← c.parts.view_is, c.in_ok-make_room.ensures.made) (post_same _ _ _ _ _ _ _ _ _ _ refl refl)

pub returns-in_default : goal.returns-in_default
returns-in_default g c =
    let kept = c.parts.invariant in
    let here = router_at kept.parts c.args.stage c.requires.stage c.index_mut-router.result.now c.index_mut-router.ensures.value in
    let none = (told kept.sound kept.parts).no_route c.args.stage (none_goes here c.parts.inside.seen (rw c.in_default.is at c.in_ok-bundle.ensures.none_may)) in
    rw (← c.parts.view_is, c.in_ok-make_room.ensures.made) (record { steps = ((λ x can. absurd (none x (can_do kept (Route _) x can))), refl); mail = post_same _ _ _ _ _ _ _ _ _ _ refl refl })

pub send-requires-clause-may : goal.send-requires-clause-may
send-requires-clause-may g c κs within =
    let kept = c.parts.invariant in
    let given = given_up kept c.requires.stage c.index_mut-router.ensures.value c.in-Some.is c.in_ok-bundle.ensures.stage c.in_ok-bundle.ensures.content c.in_ok-bundle.ensures.may_go in
    rw (c.in_ok-make_room.ensures.made, c.records-message.ensures) (bundle_may kept given)

pub send-requires-clause-to : goal.send-requires-clause-to
send-requires-clause-to g c κs within =
    let kept = c.parts.invariant in
    let given = given_up kept c.requires.stage c.index_mut-router.ensures.value c.in-Some.is c.in_ok-bundle.ensures.stage c.in_ok-bundle.ensures.content c.in_ok-bundle.ensures.may_go in
    rw c.records-message.ensures (receiver_is kept given c.recs-recs.ensures c.index-recs-0.is c.shape-bins.ensures.shape c.bin_of.ensures.value c.owner-owner.ensures.owner)

pub send-requires-clause-changes : goal.send-requires-clause-changes
send-requires-clause-changes g c κs within =
    let kept = c.parts.invariant in
    let given = given_up kept c.requires.stage c.index_mut-router.ensures.value c.in-Some.is c.in_ok-bundle.ensures.stage c.in_ok-bundle.ensures.content c.in_ok-bundle.ensures.may_go in
    rw (c.in_ok-make_room.ensures.made, c.records-message.ensures, c.many_less.ensures, c.many_more.ensures)
    (bundle_changes kept given c.recs-recs.ensures c.index-recs-0.is)

pub send-requires-clause-at_post : goal.send-requires-clause-at_post
send-requires-clause-at_post g c κs within = rw c.in_ok-make_room.ensures.made (rw (← c.parts.view_is) at c.requires.at_post)

pub invariant_of-parts-in-Ok : goal.invariant_of-parts-in-Ok
invariant_of-parts-in-Ok g c =
    let kept = c.parts.invariant in
    let e = c.in_ok-bundle.ensures in
    let given = given_up kept c.requires.stage c.index_mut-router.ensures.value c.in-Some.is e.stage e.content e.may_go in
    let made = c.in_ok-make_room.ensures.made in
    let left = gone given.here c.in-Some.bundle c.send_some.new.self (rw c.in-Some.is at e.unsent) e.same_stage in
    kept_by kept c.send.new.log (rw made at c.in-Ok.ensures.worker) (rw (made, c.records-message.ensures) at c.in-Ok.ensures.sent)
    ((steps kept.sound kept.parts).route c.args.stage given.first (names_in c.in-Some.bundle) c.send_some.new.self given.may given.of.0 left)

pub returns-in-Ok : goal.returns-in-Ok
returns-in-Ok g c =
    let kept = c.parts.invariant in
    let given = given_up kept c.requires.stage c.index_mut-router.ensures.value c.in-Some.is c.in_ok-bundle.ensures.stage c.in_ok-bundle.ensures.content c.in_ok-bundle.ensures.may_go in
    let owner = receiver_is kept given c.recs-recs.ensures c.index-recs-0.is c.shape-bins.ensures.shape c.bin_of.ensures.value c.owner-owner.ensures.owner in
    let xs = names_in c.in-Some.bundle in
    let made = c.in_ok-make_room.ensures.made in
    let sent = rw (made, c.records-message.ensures) at c.in-Ok.ensures.sent in
    let room = subst (g.P.Post.had_room c.args.post.now c.parts.inside.log.worker) owner (rw made at c.in-Ok.ensures.room) in
    let makes = makes_all kept (Route c.args.stage) given.first c.requires.stage ((told kept.sound kept.parts).route c.args.stage given.first given.may) xs given.of.0 c.send.new.log.log sent in
    rw (← c.parts.view_is, rw made at c.in-Ok.ensures.worker)
    (record { steps = record { names = xs; tells = rw c.records-message.ensures at c.in-Ok.ensures.names; makes = makes; allows = room }; mail = rw made at c.in-Ok.ensures.mail })

pub give_back-requires-clause-content : goal.give_back-requires-clause-content
give_back-requires-clause-content g c κs within =
    let e = c.in_ok-bundle.ensures in
    let given = given_up c.parts.invariant c.requires.stage c.index_mut-router.ensures.value c.in-Some.is e.stage e.content e.may_go in
    let named = c.in-Recs.ensures.names ∙ c.in-Err.ensures.back ∙ c.records-message.ensures in
    let b = c.in-Some.bundle in
    rw (same_bundle given.here b c.in-Recs.bundle given.content c.in-Recs.ensures.content named)
    (subst (λ (n : ℕ). All (IsRecordOf (table_of g.Q.Query.facts g.J.Naming.job) g.J.Naming.job n) b.recs) (given.of_stage ∙ sym e.same_stage) given.content.records)

pub give_back-requires-clause-stage : goal.give_back-requires-clause-stage
give_back-requires-clause-stage g c κs within =
    let e = c.in_ok-bundle.ensures in
    let given = given_up c.parts.invariant c.requires.stage c.index_mut-router.ensures.value c.in-Some.is e.stage e.content e.may_go in
    let named = c.in-Recs.ensures.names ∙ c.in-Err.ensures.back ∙ c.records-message.ensures in
    rw (same_bundle given.here c.in-Some.bundle c.in-Recs.bundle given.content c.in-Recs.ensures.content named) (given.of_stage ∙ sym e.same_stage)

pub invariant_of-parts-2 : goal.invariant_of-parts-2
invariant_of-parts-2 g c =
    let kept = c.parts.invariant in
    let here = router_at kept.parts c.args.stage c.requires.stage c.index_mut-router.result.now c.index_mut-router.ensures.value in
    let e = c.in_ok-bundle.ensures in
    let made = c.in_ok-make_room.ensures.made in
    let named = c.in-Recs.ensures.names ∙ c.in-Err.ensures.back ∙ c.records-message.ensures in
    let last = back here c.in-Some.bundle c.in-Recs.bundle c.send_some.new.self c.give_back.new.self named e.same_stage (rw c.in-Some.is at e.all_but) c.give_back.ensures.in_turn c.give_back.ensures.stage in
    kept_by kept c.send.new.log (rw made at c.in-Err.ensures.worker) (rw made at c.in-Err.ensures.unchanged) (other_router kept.parts c.args.stage c.give_back.new.self last)

pub returns : goal.returns
returns g c =
    let kept = c.parts.invariant in
    let given = given_up kept c.requires.stage c.index_mut-router.ensures.value c.in-Some.is c.in_ok-bundle.ensures.stage c.in_ok-bundle.ensures.content c.in_ok-bundle.ensures.may_go in
    let owner = receiver_is kept given c.recs-recs.ensures c.index-recs-0.is c.shape-bins.ensures.shape c.bin_of.ensures.value c.owner-owner.ensures.owner in
    let o = outline_of (table_of g.Q.Query.facts g.J.Naming.job) g.J.Naming.job in
    let i = c.parts.inside.log in
    let made = c.in_ok-make_room.ensures.made in
    let back = c.in-Err.ensures in
    let full = subst (g.P.Post.was_full c.args.post.now i.worker) (owner ∙ ap (receiver_of o) given.of.1.1) (rw made at back.full) in
    let one = least_unique (IsHeld o i.worker i.log (is_rec c.args.stage)) given.first in
    rw (← c.parts.view_is)
    (record { steps = ((λ x can. rw (← one x given.may.0 can.next) full), rw (rw made at back.worker, rw made at back.unchanged) refl); mail = rw made at back.mail })

pub send_some-requires-clause-held : goal.send_some-requires-clause-held
send_some-requires-clause-held g c κs within =
    let kept = c.parts.invariant in
    let log = c.parts.inside.log in
    (log.worker, log.log, kept.parts.legal, (router_at kept.parts c.args.stage c.requires.stage c.index_mut-router.result.now c.index_mut-router.ensures.value).1)

pub invariant_of-parts : goal.invariant_of-parts
invariant_of-parts g c = rw c.in_err-make_room.ensures.unchanged c.parts.invariant

pub invariant_of-parts-in_err-bundle : goal.invariant_of-parts-in_err-bundle
invariant_of-parts-in_err-bundle g c =
    let i = c.parts.inside in
    rw (c.in_ok-make_room.ensures.made, again_there i.routers.items c.args.stage c.index_mut-router.result.now c.send_some.new.self c.index_mut-router.ensures.value c.in_err-bundle.ensures.refused) c.parts.invariant

pub invariant_of-parts-in_default : goal.invariant_of-parts-in_default
invariant_of-parts-in_default g c =
    let i = c.parts.inside in
    rw (c.in_ok-make_room.ensures.made, again_there i.routers.items c.args.stage c.index_mut-router.result.now c.send_some.new.self c.index_mut-router.ensures.value (rw c.in_default.is at c.in_ok-bundle.ensures.unchanged)) c.parts.invariant

pub send-requires-clause-outline : goal.send-requires-clause-outline
send-requires-clause-outline g c κs within = c.parts.invariant.sound

pub send-requires-clause-worker : goal.send-requires-clause-worker
send-requires-clause-worker g c κs within = rw c.in_ok-make_room.ensures.made c.parts.invariant.parts.worker
