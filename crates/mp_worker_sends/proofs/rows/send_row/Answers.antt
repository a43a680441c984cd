use Rattle.std.proofs.Common.{◌∙◌, ◌∷◌, [], refl}
use Rattle.mp_names.specs.declared.kinds.Kind.TheVariants.{SendRow}
use Rattle.mp_names.specs.Names.{is_row}
use Rattle.mp_rows_laws.proofs.Sent.{row_sent}
use Rattle.mp_outline.specs.JobOutline.{name_of_row}
use Rattle.mp_worker_parts.specs.Below.{holds_row, least_row, rows_back, rows_left}
use Rattle.mp_worker_parts.specs.Below.{steps, told}
use Rattle.mp_worker_refinement.proofs.Alone.{post_same}
use Rattle.mp_worker_refinement.proofs.Pushed.{held_may}
use Rattle.mp_worker_parts.proofs.Keeping.{kept_by, makes_all}
use Rattle.mp_worker_sends.proofs.Kept.{holds_a_row}
use Rattle.mp_worker_sends.proofs.rows.send_row.Goals as goal
use Rattle.mp_model.specs.Tables.{table_of}

pub unreachable-requires : goal.unreachable-requires
unreachable-requires g c = holds_row (table_of g.Q.Query.facts g.J.Naming.job) g.J.Naming.job c.in-Some.field-0 c.in-Some.ensures.content c.parts.invariant.rows c.in_default-value.not-Row

pub returns-in_err-make_room-clause-mail : goal.returns-in_err-make_room-clause-mail
returns-in_err-make_room-clause-mail g c = rw (← c.parts.view_is, c.in_err-make_room.ensures.unchanged) (post_same _ _ _ _ _ _ _ _ _ _ refl refl)

pub returns-in_default-clause-mail : goal.returns-in_default-clause-mail
returns-in_default-clause-mail g c = rw (← c.parts.view_is, c.in_ok-make_room.ensures.made) (post_same _ _ _ _ _ _ _ _ _ _ refl refl)

pub send-requires-clause-may : goal.send-requires-clause-may
send-requires-clause-may g c κs within =
    let kept = c.parts.invariant in
    let least = least_row kept.parts.unsent c.in-Some.ensures.some c.in-Some.ensures.in_order in
    rw (c.in_ok-make_room.ensures.made, c.row-row.ensures) (held_may _ kept.sound _ _ kept.parts.legal is_row (name_of_row c.in-Some.field-0) least.0)

pub send-requires-clause-changes : goal.send-requires-clause-changes
send-requires-clause-changes g c κs within =
    let kept = c.parts.invariant in
    let i = c.parts.inside.log in
    let row = c.in-Some.field-0 in
    let least = least_row kept.parts.unsent c.in-Some.ensures.some c.in-Some.ensures.in_order in
    rw (c.in_ok-make_room.ensures.made, c.row-row.ensures, c.one_less.ensures, c.one_more.ensures) (row_sent _ i.worker i.log kept.sound row.time row.tag least.0)

pub send-requires-clause-at_post : goal.send-requires-clause-at_post
send-requires-clause-at_post g c κs within = rw c.in_ok-make_room.ensures.made (rw (← c.parts.view_is) at c.requires.at_post)

pub unreachable-requires-in_default-into_body : goal.unreachable-requires-in_default-into_body
unreachable-requires-in_default-into_body g c =
    let row = c.in-Some.field-0 in
    holds_a_row c.into_body.result row.time row.tag (c.into_body.ensures.names ∙ c.in-Err.ensures.back ∙ c.row-row.ensures) c.in_default-into_body.not-Row

pub invariant_of-parts-in-Ok : goal.invariant_of-parts-in-Ok
invariant_of-parts-in-Ok g c =
    let kept = c.parts.invariant in
    let least = least_row kept.parts.unsent c.in-Some.ensures.some c.in-Some.ensures.in_order in
    let made = c.in_ok-make_room.ensures.made in
    kept_by kept c.send.new.log (rw made at c.in-Ok.ensures.worker) (rw (made, c.row-row.ensures) at c.in-Ok.ensures.sent)
    ((steps kept.sound kept.parts).send_row (name_of_row c.in-Some.field-0) c.pop_first.new.self.rows least (rows_left kept.parts.unsent c.in-Some.ensures.some))

pub returns-in-Ok : goal.returns-in-Ok
returns-in-Ok g c =
    let kept = c.parts.invariant in
    let x = name_of_row c.in-Some.field-0 in
    let can = (told kept.sound kept.parts).send_row x (least_row kept.parts.unsent c.in-Some.ensures.some c.in-Some.ensures.in_order) in
    let made = c.in_ok-make_room.ensures.made in
    let e = c.in-Ok.ensures in
    let makes = makes_all kept SendRow x tt can (x ∷ []) refl c.send.new.log.log (rw (made, c.row-row.ensures) at e.sent) in
    rw (← c.parts.view_is, rw made at e.worker)
    (record { steps = record { names = x ∷ []; tells = rw c.row-row.ensures at e.names; makes = makes; allows = rw made at e.room }; mail = rw made at e.mail })

pub invariant_of-parts-2 : goal.invariant_of-parts-2
invariant_of-parts-2 g c =
    let q = table_of g.Q.Query.facts g.J.Naming.job in
    let kept = c.parts.invariant in
    let made = c.in_ok-make_room.ensures.made in
    let back = c.in-Row-into_body in
    let named = back.ensures.names ∙ c.in-Err.ensures.back ∙ c.row-row.ensures in
    let one = c.in-Some in
    let last = rows_back q g.J.Naming.job one.field-0 one.ensures.content c.in-Row.fields c.in-Row.is _ c.pop_first.new.self.rows one.ensures.back back.time back.tag back.fields back.ensures.content named _ c.in_ok-hold.ensures.put in
    rw last (kept_by kept c.send.new.log (rw made at c.in-Err.ensures.worker) (rw made at c.in-Err.ensures.unchanged) kept.parts)

pub returns-clause-mail : goal.returns-clause-mail
returns-clause-mail g c = rw (← c.parts.view_is) (rw c.in_ok-make_room.ensures.made at c.in-Err.ensures.mail)

pub invariant_of-parts : goal.invariant_of-parts
invariant_of-parts g c = rw c.in_err-make_room.ensures.unchanged c.parts.invariant

pub send-requires-clause-outline : goal.send-requires-clause-outline
send-requires-clause-outline g c κs within = c.parts.invariant.sound

pub send-requires-clause-worker : goal.send-requires-clause-worker
send-requires-clause-worker g c κs within = rw c.in_ok-make_room.ensures.made c.parts.invariant.parts.worker

pub invariant_of-parts-in_default : goal.invariant_of-parts-in_default
invariant_of-parts-in_default g c = rw (c.in_ok-make_room.ensures.made, c.in_default.ensures.unchanged) c.parts.invariant
