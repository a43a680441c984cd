use Rattle.std.proofs.Common.{◌≡◌, length, List, Some, Global, refl, sym, ap, ◌∙◌, subst}
use Rattle.std.specs.declared.vec.Vec.{Vec}
use Rattle.std.specs.List.{slice_get}
use Rattle.std.proofs.lemmas.Option.{slice_get_read}
use Rattle.mp_names.specs.declared.kinds.Kind.TheVariants.{Route}
use Rattle.mp_names.specs.Outlines.{receiver, time_of}
use Rattle.mp_machine.specs.Steps.{stepped}
use Rattle.mp_chart.specs.declared.entry.Entry.{Entry}
use Rattle.mp_standing.specs.declared.message.Message.{Message}
use Rattle.mp_chart.specs.declared.work.Work.{Work}
use Rattle.mp_standing.specs.declared.held.Held.{Held}
use Rattle.mp_standing.specs.declared.done.Done.{Done}
use Rattle.mp_standing.specs.Numbers.{done_at}
use Rattle.mp_standing.specs.Standings.{IsWorkDone}
use Rattle.mp_player.specs.Shows.{IsMailOf}
use Rattle.mp_player.proofs.Mails.{Matches}
use Rattle.mp_player.proofs.Stepping.{shows_after}
use Rattle.mp_player.specs.Routing.{without_first}
use Rattle.mp_player.proofs.Routed.{HasRouted, stands_routed, routed_mail}
use Rattle.mp_player.proofs.routing.send_bundle.Goals as goal

pub returns : goal.returns
returns c = λ o depth world shows next.
    let w = c.args.worker in
    let j = c.args.stage in
    let x = next.name in
    let old = c.args.state.now in
    let s = c.index_mut-standing.result.now in
    let m = c.args.message in
    let work = c.work_done-work.result in
    let new = c.take_off.new.standing in
    let there : slice_get old.standings.items w ≡ Some s = slice_get_read old.standings.items (length old.standings.items) w s refl c.requires c.index_mut-standing.ensures.value in
    let noted = c.in_ok-note.ensures in
    let took = c.take_off.ensures in
    let is : IsWorkDone (Route j) x (time_of o x) m.count work = subst (λ (e : Entry). IsWorkDone (Route j) e.name e.time m.count work) next.first c.work_done-work.ensures in
    let routed : HasRouted j (receiver o x) m.count work s new =
    record {
      others = λ k n. ap (λ (d : Done). done_at d k) took.done ∙ noted.others k n;
      since = ap (λ (v : Vec Work Global). v.items) took.work ∙ noted.work;
      changed = took.changed ∙ noted.changed;
      held = took.held ∙ ap (λ (v : Vec Held Global). without_first v.items j m.first.receiver m.count) noted.held ∙ ap (λ (e : Entry). without_first s.held.items j e.receiver m.count) next.first;
      seen = took.seen ∙ noted.seen;
    }
    in
    let stands = stands_routed o depth world shows.reached w j x next.can s new work m.count next.count is routed (shows.each w s there) in
    let mails = routed_mail o depth world shows.reached w j x next.can m next.first next.count old.mail shows.mail_of shows.mail in
    shows_after o depth world w (Route j) x next.can old _ new shows stands refl
    (subst (IsMailOf o.workers) (sym c.in_ok-push.ensures) mails.1)
    (subst (λ (mail : List (List (List Message))). Matches o mail (stepped o world w (Route j) x).mailbox) (sym c.in_ok-push.ensures) mails.0)
    refl refl
