use Rattle.std.proofs.Common.{◌∙◌, ◌<◌, ap, sym, length}
use Rattle.std.specs.Prelude.{slice_get}
use Rattle.mp_board.specs.Boards.{Posted}
use Rattle.mp_seat.specs.Seats.{holding}
use Rattle.mp_threads_hub.specs.Hubs.{shared_version}
use Rattle.mp_threads_hub.proofs.Posting.{changes, has_posted, never_back, row_posted, seat_rises, shown, shows_own}
use Rattle.mp_threads_hub.proofs.hub.SeatHubHub.exchange.Goals as goal

pub put-requires-clause-row : goal.put-requires-clause-row
put-requires-clause-row g c =
    let is = c.deref_mut.ensures.value ∙ c.shared.view_is in
    let e = c.exchange-answer.ensures in
    let own = c.requires.serves.0 ∙ sym (ap (λ s. s.number) c.self.view_is) in
    let took = c.in-Some.ensures.some ∙ ap (λ (b : Posted). holding c.self.inside.seat b.logs (shared_version b)) (sym is) in
    changes c.self.inside.seat c.try_take.new.seat c.deref_mut.result.now c.exchange-answer.new.self c.args.worker c.args.log.now.log own took c.exchange-answer.result e.after e.kept

pub returns-clause-after : goal.returns-clause-after
returns-clause-after g c =
    let is = c.deref_mut.ensures.value ∙ c.shared.view_is in
    let e = c.exchange-answer.ensures in
    let own = c.requires.serves.0 ∙ sym (ap (λ s. s.number) c.self.view_is) in
    let took = c.in-Some.ensures.some ∙ ap (λ (b : Posted). holding c.self.inside.seat b.logs (shared_version b)) (sym is) in
    let stood = ap (λ (b : Posted). slice_get b.logs c.self.inside.seat.number) is ∙ c.in-Some.ensures.row in
    let since = rw (← is) at c.in-Some.ensures.version in
    let on = never_back c.deref_mut.result.now c.exchange-answer.new.self c.args.worker c.args.log.now.log c.exchange-answer.result e.after e.kept e.never_falls in
    let many = ap (λ (b : Posted). length b.logs) is ∙ c.in-Some.ensures.many ∙ ap (λ s. s.seats) c.self.view_is ∙ c.requires.serves.1 in
    let inside : c.args.worker < length c.deref_mut.result.now.logs = rw many c.requires.worker in
    rw (← c.self.view_is)
    (has_posted c.self.inside.seat c.try_take.new.seat c.deref_mut.result.now c.exchange-answer.new.self c.args.worker c.args.log.now.log own took c.put.new.seat c.self.invariant.1 stood since on inside c.put.ensures c.exchange-answer.result e.after)

pub returns-clause-posted : goal.returns-clause-posted
returns-clause-posted g c =
    let is = c.deref_mut.ensures.value ∙ c.shared.view_is in
    let e = c.exchange-answer.ensures in
    let own = c.requires.serves.0 ∙ sym (ap (λ s. s.number) c.self.view_is) in
    let took = c.in-Some.ensures.some ∙ ap (λ (b : Posted). holding c.self.inside.seat b.logs (shared_version b)) (sym is) in
    let stood = ap (λ (b : Posted). slice_get b.logs c.self.inside.seat.number) is ∙ c.in-Some.ensures.row in
    let since = rw (← is) at c.in-Some.ensures.version in
    let on = never_back c.deref_mut.result.now c.exchange-answer.new.self c.args.worker c.args.log.now.log c.exchange-answer.result e.after e.kept e.never_falls in
    let many = ap (λ (b : Posted). length b.logs) is ∙ c.in-Some.ensures.many ∙ ap (λ s. s.seats) c.self.view_is ∙ c.requires.serves.1 in
    let inside : c.args.worker < length c.deref_mut.result.now.logs = rw many c.requires.worker in
    row_posted c.self.inside.seat c.try_take.new.seat c.deref_mut.result.now c.exchange-answer.new.self c.args.worker c.args.log.now.log own took c.put.new.seat c.self.invariant.1 stood since on inside c.put.ensures c.exchange-answer.result e.after

pub returns-clause-shows : goal.returns-clause-shows
returns-clause-shows g c = shown g.O.Outlined.outline c.try_take.new.seat c.put.new.seat c.exchange-answer.new.self c.put.ensures c.exchange-answer.result (shows_own c.deref_mut.result.now c.exchange-answer.new.self c.args.worker c.args.log.now.log c.exchange-answer.result c.exchange-answer.ensures.tried c.exchange-answer.ensures.after) c.exchange-answer.ensures.shows

pub returns-clause-rises : goal.returns-clause-rises
returns-clause-rises g c =
    let is = c.deref_mut.ensures.value ∙ c.shared.view_is in
    let e = c.exchange-answer.ensures in
    let own = c.requires.serves.0 ∙ sym (ap (λ s. s.number) c.self.view_is) in
    let took = c.in-Some.ensures.some ∙ ap (λ (b : Posted). holding c.self.inside.seat b.logs (shared_version b)) (sym is) in
    let stood = ap (λ (b : Posted). slice_get b.logs c.self.inside.seat.number) is ∙ c.in-Some.ensures.row in
    let since = rw (← is) at c.in-Some.ensures.version in
    let on = never_back c.deref_mut.result.now c.exchange-answer.new.self c.args.worker c.args.log.now.log c.exchange-answer.result e.after e.kept e.never_falls in
    let many = ap (λ (b : Posted). length b.logs) is ∙ c.in-Some.ensures.many ∙ ap (λ s. s.seats) c.self.view_is ∙ c.requires.serves.1 in
    let inside : c.args.worker < length c.deref_mut.result.now.logs = rw many c.requires.worker in
    rw (← c.self.view_is)
    (seat_rises c.self.inside.seat c.try_take.new.seat c.deref_mut.result.now c.exchange-answer.new.self c.args.worker c.args.log.now.log own took c.put.new.seat c.self.invariant.1 stood since on inside c.put.ensures c.exchange-answer.result e.tried (shows_own c.deref_mut.result.now c.exchange-answer.new.self c.args.worker c.args.log.now.log c.exchange-answer.result e.tried e.after) e.rises)
