use Rattle.std.proofs.Common.{◌≡◌, ◌+◌, ◌∙◌, ◌∷◌, [], ap, arith, length, length-append, subst, suc}
use Rattle.mp_seat.specs.Seats.{new_seat}
use Rattle.mp_seat.specs.Seated.{HasRest}
use Rattle.mp_seat.proofs.Places.{each_more}
use Rattle.mp_seat.proofs.Dealing.{last_has_one, last_is_new}
use Rattle.mp_seat.proofs.lock.SeatLock.deal_all.Goals as goal

pub loop-number-preserved : goal.loop-number-preserved
loop-number-preserved g c =
    let i = c.loop-number.invariant in
    let lock = c.args.self.now in
    let rows = g.T.Rows.rows c.args.opened.now.value in
    let version = g.T.Rows.version c.args.opened.now.value in
    let list = c.loop-number.list.items in
    let more : length c.push_reserved.new.self.items ≡ length list + 1 = omega (arith, ap length c.push_reserved.ensures.items, length-append list (c.deal-next.result ∷ [])) in
    let next : c.loop-number.all.me.0.first + 1 ≡ length c.push_reserved.new.self.items = omega (arith, more, i.rest.first_is) in
    record {
      room = omega (arith, i.room, c.push_reserved.ensures.capacity);
      many = omega (arith, more, i.many);
      new = rw c.push_reserved.ensures.items (each_more (λ k seat. seat ≡ new_seat lock rows version k) list c.deal-next.result i.new (c.deal-next.ensures.new ∙ ap (new_seat lock rows version) i.rest.first_is));
      rest = subst (λ k. HasRest lock rows version k c.deal-next.new.rest) next c.deal-next.ensures.rest;
    }

pub invariant_of-push_reserved : goal.invariant_of-push_reserved
invariant_of-push_reserved g c =
    let i = c.loop-number.invariant in
    let last : suc (length c.loop-number.list.items) ≡ length (g.T.Rows.rows c.args.opened.now.value) = omega (arith, i.many, c.loop-number-test.false, c.requires.seats) in
    (last_has_one _ _ _ _ c.loop-number.all i.rest last, omega (arith, i.rest.first_is, last, c.requires.seats))

pub returns-clause-new : goal.returns-clause-new
returns-clause-new g c =
    let i = c.loop-number.invariant in
    let lock = c.args.self.now in
    let rows = g.T.Rows.rows c.args.opened.now.value in
    let version = g.T.Rows.version c.args.opened.now.value in
    let last : suc (length c.loop-number.list.items) ≡ length rows = omega (arith, i.many, c.loop-number-test.false, c.requires.seats) in
    rw c.push_reserved-2.ensures.items (each_more (λ k seat. seat ≡ new_seat lock rows version k) c.loop-number.list.items _ i.new (last_is_new lock rows version _ c.loop-number.all i.rest last))
