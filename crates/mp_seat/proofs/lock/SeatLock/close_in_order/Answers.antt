use Rattle.std.proofs.Common.{◌≡◌, ◌<◌, length, map, ap, sym, ◌∙◌, subst, arith, Some}
use Rattle.std.proofs.lemmas.Grind.{common_steps}
use Rattle.mp_seat.specs.Seats.{AreInOrder}
use Rattle.mp_seat.proofs.Keeps.{may_join}
use Rattle.mp_seat.proofs.Gathering.{Gathers, fewer_idle, gather_first, gather_meets, gather_more, gather_done, closes}
use Rattle.mp_seat.proofs.lock.SeatLock.close_in_order.Goals as goal

pub loop-seat-init : goal.loop-seat-init
loop-seat-init g c =
    let items = c.in-Some.ensures.items in
    let idle = subst (λ l. AreInOrder c.args.self l) items c.requires.seats in
    record {
      seats = fewer_idle c.args.self _ _ idle;
      all = subst (λ l. Gathers c.args.self c.pop.new.self.items l c.into_inner-all.result) (sym items)
          (gather_first c.args.self _ _ _ c.into_inner-all.ensures.state c.into_inner-all.ensures.one idle (ap length (sym items) ∙ c.requires.all));
    }

pub join_seat-requires : goal.join_seat-requires
join_seat-requires g c =
    let i = c.loop-seat.invariant in
    let items = c.in-Some-pop.ensures.items in
    let idle = subst (λ l. AreInOrder c.args.self l) items i.seats in
    let all = subst (λ l. Gathers c.args.self l c.args.seats.items c.loop-seat.all) items i.all in
    let meets = gather_meets c.args.self _ _ _ _ _ c.into_inner.ensures.state c.into_inner.ensures.one idle all in
    let word : 0 < c.self.inside.table.shared.table_id.words = omega (arith, c.self.invariant.words) in
    let id = ap (λ l. l.id) c.self.view_is in
    let r = all.some_rows in
    (all.of_lock ∙ sym id, meets.0 ∙ sym id, meets.1, word, may_join g.T.Rows.rows g.T.Rows.version _ _ _ _ _ _ _ r.2 all.idle meets.2 meets.3)

pub loop-seat-preserved : goal.loop-seat-preserved
loop-seat-preserved g c =
    let i = c.loop-seat.invariant in
    let items = c.in-Some-pop.ensures.items in
    let idle = subst (λ l. AreInOrder c.args.self l) items i.seats in
    let all = subst (λ l. Gathers c.args.self l c.args.seats.items c.loop-seat.all) items i.all in
    record {
      seats = fewer_idle c.args.self _ _ idle;
      all = gather_more c.args.self _ _ _ c.loop-seat.all c.into_inner.result c.join_seat.new.seat c.into_inner.ensures.state c.into_inner.ensures.one idle all c.join_seat.ensures.0 c.join_seat.ensures.2;
    }

pub unreachable-requires-in_default-take : goal.unreachable-requires-in_default-take
unreachable-requires-in_default-take g c =
    let i = c.loop-seat.invariant.all in
    let none : length c.loop-seat.seats.items ≡ 0 = grind (arith, common_steps, c.in_default-pop.ensures.cases) in
    let d = gather_done c.args.self _ _ _ none i in
    let whole = d.1 ∙ sym (ap (λ l. l.seats) c.self.view_is) in
    let t = closes g.T.Rows.rows g.T.Rows.version _ _ _ _ _ _ d.0 whole i.idle c.close_with-closed.ensures.values.2 c.take.ensures.value in
    absurd (c.in_default-take.not-Some t.0 t.1)

pub returns-clause-rows : goal.returns-clause-rows
returns-clause-rows g c =
    let i = c.loop-seat.invariant.all in
    let none : length c.loop-seat.seats.items ≡ 0 = grind (arith, common_steps, c.in_default-pop.ensures.cases) in
    let d = gather_done c.args.self _ _ _ none i in
    let whole = d.1 ∙ sym (ap (λ l. l.seats) c.self.view_is) in
    let t = closes g.T.Rows.rows g.T.Rows.version _ _ _ _ _ _ d.0 whole i.idle c.close_with-closed.ensures.values.2 c.take.ensures.value in
    let is : c.in-Some-take.value ≡ t.0 = cc (c.in-Some-take.is, t.1) in
    ap (λ v. map (λ row. Some row) (g.T.Rows.rows v)) is ∙ (ap (map (λ row. Some row)) t.2 ∙ d.2)

pub returns-clause-version : goal.returns-clause-version
returns-clause-version g c =
    let i = c.loop-seat.invariant.all in
    let none : length c.loop-seat.seats.items ≡ 0 = grind (arith, common_steps, c.in_default-pop.ensures.cases) in
    let d = gather_done c.args.self _ _ _ none i in
    let whole = d.1 ∙ sym (ap (λ l. l.seats) c.self.view_is) in
    let t = closes g.T.Rows.rows g.T.Rows.version _ _ _ _ _ _ d.0 whole i.idle c.close_with-closed.ensures.values.2 c.take.ensures.value in
    let is : c.in-Some-take.value ≡ t.0 = cc (c.in-Some-take.is, t.1) in
    ap g.T.Rows.version is ∙ (t.3 ∙ d.3)
