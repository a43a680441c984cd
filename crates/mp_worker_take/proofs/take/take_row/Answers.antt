use Rattle.std.proofs.Common.{◌∷◌, [], arith, refl}
use Rattle.mp_names.specs.declared.names.Name.TheVariants.{Row}
use Rattle.mp_outline.specs.JobOutline.{outline_of}
use Rattle.mp_rows.proofs.RowTaken.{row_taken as taken_is_counted}
use Rattle.mp_worker_invariant.proofs.Asked.{row_not_written}
use Rattle.mp_worker_take.proofs.Received.{only_new, only_owed, row_taken}
use Rattle.mp_worker_parts.proofs.Keeping.{kept_as, not_refused}
use Rattle.mp_worker_take.proofs.Rooms.{some_names}
use Rattle.mp_worker_take.proofs.take.take_row.Goals as goal
use Rattle.mp_model.specs.Tables.{table_of}

pub push-requires : goal.push-requires
push-requires g c =
    record { changes = rw c.one_less.ensures (taken_is_counted (outline_of (table_of g.Q.Query.facts g.J.Naming.job) g.J.Naming.job) c.parts.inside.log.worker c.parts.inside.log.log c.args.time c.args.tag) }

pub unreachable-requires : goal.unreachable-requires
unreachable-requires g c =
    let room = rw (← c.parts.view_is) at c.requires.room in
    not_refused c.push.result (c.push.ensures.ready (some_names room.names) (omega (arith, room.changes))) c.in_default.not-Ok

pub invariant_of-parts : goal.invariant_of-parts
invariant_of-parts g c =
    let kept = c.parts.invariant in
    let log = c.parts.inside.log in
    let o = outline_of (table_of g.Q.Query.facts g.J.Naming.job) g.J.Naming.job in
    let new = rw (← c.parts.view_is) at c.requires.new in
    let x = Row c.args.time c.args.tag in
    let owed = only_owed o log.worker log.log x (x ∷ []) refl new in
    let fresh = only_new o log.worker log.log x (x ∷ []) refl new in
    let unwritten = row_not_written o log.worker log.log kept.parts.legal c.args.time c.args.tag owed fresh in
    let held = c.in-Ok-receive.ensures.held log.log kept.parts.unwritten fresh unwritten in
    rw c.in-Ok.ensures.pushed (kept_as kept (row_taken kept.sound kept.parts c.args.time c.args.tag x refl owed fresh c.receive.new.self.rows held))
