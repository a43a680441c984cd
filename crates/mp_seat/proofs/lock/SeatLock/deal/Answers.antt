use Rattle.std.proofs.Common.{◌<◌, ◌∙◌, ap, sym, arith}
use Rattle.mp_seat.proofs.Keeps.{may_split}
use Rattle.mp_seat.proofs.Dealing.{next_row, rest_of, dealt_is_new, dealt_has_one}
use Rattle.mp_seat.proofs.lock.SeatLock.deal.Goals as goal

pub split_seat-requires : goal.split_seat-requires
split_seat-requires g c =
    let h = c.requires.rest in
    let word : 0 < c.self.inside.table.shared.table_id.words = omega (arith, c.self.invariant.words) in
    let t = next_row _ _ c.requires.more in
    (h.of_lock ∙ sym (ap (λ l. l.id) c.self.view_is), word, may_split g.T.Rows.rows g.T.Rows.version _ _ _ t.0 _ (h.own_is ∙ t.2) h.idle)

pub invariant_of-result : goal.invariant_of-result
invariant_of-result g c = (dealt_has_one _ _ _ _ _ c.split_seat.result c.requires.rest c.requires.more c.split_seat.ensures.4, ap (λ m. m.0.first) c.split_seat.ensures.4 ∙ c.requires.number)

pub returns-clause-rest : goal.returns-clause-rest
returns-clause-rest g c = rest_of _ _ _ _ _ c.split_seat.new.seat c.requires.rest c.requires.more c.split_seat.ensures.0 c.split_seat.ensures.2

pub returns-clause-new : goal.returns-clause-new
returns-clause-new g c = dealt_is_new _ _ _ _ _ c.split_seat.result c.requires.rest c.requires.more c.split_seat.ensures.3 c.split_seat.ensures.4
