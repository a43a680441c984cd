use Rattle.mp_names.specs.declared.names.Name.TheVariants.{Ctrl}
use Rattle.mp_names.specs.Outlines.{Outline}
use Rattle.mp_outline.specs.JobOutline.{outline_of}
use Rattle.mp_worker_take.proofs.Received.{only_new, only_owed}
use Rattle.mp_worker_take.proofs.take.take.Given as given
use Rattle.mp_worker_take.proofs.take.take.Goals as goal
use Rattle.mp_model.specs.Tables.{table_of}

abbrev outline : given.Over → Outline
outline g = outline_of (table_of g.Q.Query.facts g.J.Naming.job) g.J.Naming.job

pub take_control-requires-clause-content : goal.take_control-requires-clause-content
take_control-requires-clause-content g c κs within =
    let s = c.args.parts.now.worker in
    rw (only_owed (outline g) s.number s.log (Ctrl c.in-Ctrl.index c.in-Ctrl.to) c.args.message c.in-Ctrl.ensures.names c.requires.new).1 at c.in-Ctrl.ensures.content

pub take_control-requires-clause-fresh : goal.take_control-requires-clause-fresh
take_control-requires-clause-fresh g c κs within =
    let x = Ctrl c.in-Ctrl.index c.in-Ctrl.to in
    let here = (only_owed (outline g) c.args.parts.now.worker.number c.args.parts.now.worker.log x c.args.message c.in-Ctrl.ensures.names c.requires.new).1 in
    rw (← here) (only_new (outline g) c.args.parts.now.worker.number c.args.parts.now.worker.log x c.args.message c.in-Ctrl.ensures.names c.requires.new)

pub returns-in-Ctrl : goal.returns-in-Ctrl
returns-in-Ctrl g c =
    let here = (only_owed (outline g) c.args.parts.now.worker.number c.args.parts.now.worker.log (Ctrl c.in-Ctrl.index c.in-Ctrl.to) c.args.message c.in-Ctrl.ensures.names c.requires.new).1 in
    rw (← c.in-Ctrl.ensures.names, here) c.take_control.ensures

pub take_records-requires-clause-new : goal.take_records-requires-clause-new
take_records-requires-clause-new g c κs within = rw c.in-Recs.ensures.names c.requires.new

pub returns-in-Recs : goal.returns-in-Recs
returns-in-Recs g c = rw (← c.in-Recs.ensures.names) c.take_records.ensures

pub take_packet-requires-clause-new : goal.take_packet-requires-clause-new
take_packet-requires-clause-new g c κs within = rw (← c.in-Packet.ensures.names) at c.requires.new

pub returns-in-Packet : goal.returns-in-Packet
returns-in-Packet g c = rw (← c.in-Packet.ensures.names) c.take_packet.ensures

pub take_row-requires-clause-new : goal.take_row-requires-clause-new
take_row-requires-clause-new g c κs within = rw (← c.in-Row.ensures.names) at c.requires.new

pub returns-in-Row : goal.returns-in-Row
returns-in-Row g c = rw (← c.in-Row.ensures.names) c.take_row.ensures
