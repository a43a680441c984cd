use Rattle.std.proofs.Common.{◌≡◌, length, List, Some, refl, sym, subst}
use Rattle.std.specs.List.{slice_get}
use Rattle.std.proofs.lemmas.Option.{slice_get_read}
use Rattle.mp_names.specs.declared.kinds.Kind.TheVariants.{Receive}
use Rattle.mp_names.specs.Outlines.{time_of}
use Rattle.mp_machine.specs.Steps.{rest_of, stepped}
use Rattle.mp_chart.specs.declared.entry.Entry.{Entry}
use Rattle.mp_standing.specs.declared.message.Message.{Message}
use Rattle.mp_standing.specs.Boxes.{box_of}
use Rattle.mp_standing.specs.Standings.{IsWorkDone}
use Rattle.mp_player.specs.Shows.{IsMailOf}
use Rattle.mp_player.proofs.Mails.{Matches, still_mail}
use Rattle.mp_player.proofs.Stepping.{shows_after}
use Rattle.mp_player.proofs.Taking.{HasTaken, stands_received, taken_matches}
use Rattle.mp_player.proofs.receiving.take.Goals as goal

pub returns : goal.returns
returns c = λ o depth world shows next.
    let w = c.args.worker in
    let v = c.args.from in
    let x = next.name in
    let old = c.args.state.now in
    let s = c.index_mut.result.now in
    let m = c.args.message in
    let there : slice_get old.standings.items w ≡ Some s = slice_get_read old.standings.items (length old.standings.items) w s refl c.requires c.index_mut.ensures.value in
    let noted = c.in_ok-note.ensures in
    let is : IsWorkDone (Receive v) x (time_of o x) m.count c.work_done-work.result = subst (λ (e : Entry). IsWorkDone (Receive v) e.name e.time m.count c.work_done-work.result) next.first c.work_done-work.ensures in
    let taken : HasTaken v c.work_done-work.result s c.note.new.self = record { others = noted.others; since = noted.work; changed = noted.changed; held = noted.held; seen = noted.seen } in
    let stands = stands_received o depth world shows.reached w v x next.can s c.note.new.self c.work_done-work.result m.count next.count is taken (shows.each w s there) in
    shows_after o depth world w (Receive v) x next.can old _ c.note.new.self shows stands refl
    (subst (IsMailOf o.workers) (sym c.pop.ensures) (still_mail o.workers old.mail v w (rest_of (box_of old.mail v w)) shows.mail_of next.can.0.1))
    (subst (λ (mail : List (List (List Message))). Matches o mail (stepped o world w (Receive v) x).mailbox) (sym c.pop.ensures) (taken_matches o old.mail world.mailbox v w shows.mail_of next.can.0.1 next.can.0.0 shows.mail))
    refl refl
