use Rattle.std.proofs.Common.{◌≡◌, ◌<◌, ◌∷◌, Option, Some, None, IfSome, ap, sym, ◌∙◌, subst, arith, slice_get}
use Rattle.atomic_table.specs.Table.{rest}
use Rattle.mp_seat.proofs.Keeps.{may_take}
use Rattle.mp_seat.proofs.Places.{one_of}
use Rattle.mp_seat.proofs.Turns.{row_stands, same_first}
use Rattle.mp_seat.proofs.lock.SeatLock.try_take.Goals as goal

pub compare_exchange-found-requires : goal.compare_exchange-found-requires
compare_exchange-found-requires g c =
    let word : 0 < c.self.inside.table.shared.table_id.words = omega (arith, c.self.invariant.words) in (
      ap (λ s. s.lock) c.seat.view_is ∙ (c.requires.0 ∙ sym (ap (λ l. l.id) c.self.view_is)),
      word,
      may_take g.T.Rows.rows g.T.Rows.version _ _ _ _ _ (one_of c.seat.inside.inner.me.0.own c.seat.invariant.0.one).1 (ap (λ s. s.taken) c.seat.view_is ∙ c.requires.1),
    )

pub exchange-requires : goal.exchange-requires
exchange-requires g c =
    let k = c.compare_exchange-found.ensures.2.0 c.if-found-eq0.true in (
      c.compare_exchange-found.ensures.0 ∙ (ap (λ s. s.lock) c.seat.view_is ∙ (c.requires.0 ∙ sym (ap (λ l. l.id) c.self.view_is))),
      (Some k.value, k.slot ∙ ap (λ l. (0, Some k.value) ∷ l) (sym (ap rest k.slot))),
    )

pub returns-then-found-eq0-clause-row : goal.returns-then-found-eq0-clause-row
returns-then-found-eq0-clause-row g c =
    let k = c.compare_exchange-found.ensures.2.0 c.if-found-eq0.true in
    let got : Some k.value ≡ c.exchange.result = same_first None _ _ _ _ _ _ (sym k.slot ∙ c.exchange.ensures.2) in
    let s = c.args.seat.now in
    subst (λ (o : Option g.row.T.Denot). IfSome o (λ t. slice_get (g.T.Rows.rows t) s.number ≡ s.row)) got
    (rw (← c.seat.view_is) (row_stands (g.T.Rows.rows k.value) c.seat.inside.inner.me.0 c.seat.invariant.0.one k.stand))
