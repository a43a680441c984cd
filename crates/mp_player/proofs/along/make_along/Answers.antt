use Rattle.std.proofs.Common.{◌≡◌, length, List, Some, refl, sym, ap, ◌∙◌, subst}
use Rattle.std.specs.List.{slice_get}
use Rattle.std.proofs.lemmas.Option.{slice_get_read}
use Rattle.mp_machine.specs.Steps.{stepped}
use Rattle.mp_chart.specs.Entries.{entry_of}
use Rattle.mp_chart.specs.declared.entry.Entry.{Entry}
use Rattle.mp_standing.specs.declared.message.Message.{Message}
use Rattle.mp_player.specs.Shows.{IsMailOf, mail_after}
use Rattle.mp_player.proofs.Mails.{Matches, along_matches}
use Rattle.mp_player.proofs.Stepping.{shows_after}
use Rattle.mp_player.proofs.along.make_along.Goals as goal

pub returns : goal.returns
returns g c = λ depth world shows next.
    let o = g.C.Chart.outline c.args.chart.now in
    let w = c.args.worker in
    let kind = c.args.kind in
    let x = next.name in
    let old = c.args.state.now in
    let s = c.index_mut.result.now in
    let there : slice_get old.standings.items w ≡ Some s = slice_get_read old.standings.items (length old.standings.items) w s refl c.requires.noted.standing c.index_mut.ensures.value in
    let stands = c.in_ok-advance.ensures x (next.place s there) next.entry depth world shows.reached next.can (shows.each w s there) in
    let sent : c.send.new.mail ≡ mail_after kind w (entry_of o x) old.mail = c.in_ok-send.ensures ∙ ap (λ (e : Entry). mail_after kind w e old.mail) next.entry in
    let mails = along_matches o shows.reached.sound depth world w kind x c.requires.along next.can old.mail shows.mail_of shows.mail in
    shows_after o depth world w kind x next.can old _ c.advance.new.standing shows stands refl
    (subst (IsMailOf o.workers) (sym sent) mails.1)
    (subst (λ (m : List (List (List Message))). Matches o m (stepped o world w kind x).mailbox) (sym sent) mails.0)
    refl refl
