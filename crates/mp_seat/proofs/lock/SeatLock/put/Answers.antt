use Rattle.std.proofs.Common.{◌≡◌, ◌≤◌, ◌<◌, [], ◌∷◌, Some, ap, sym, ◌∙◌, subst, arith, set}
use mathlib.Core.Option.{some}
use lib.ListN.{get_elem?}
use Rattle.atomic_table.specs.Table.{rest}
use Rattle.mp_seat.specs.Rule.{putting}
use Rattle.mp_seat.proofs.Keeps.{may_put}
use Rattle.mp_seat.proofs.Places.{one_of}
use Rattle.mp_seat.proofs.Turns.{rests}
use Rattle.mp_seat.proofs.lock.SeatLock.put.Goals as goal

pub store-requires : goal.store-requires
store-requires g c =
    let word : 0 < c.self.inside.table.shared.table_id.words = omega (arith, c.self.invariant.words) in
    let e = c.exchange-before.ensures in
    let own = one_of c.seat.inside.inner.me.0.own c.seat.invariant.0.one in
    let changed = c.requires.row in
    let view : c.exchange-before.new.seat.me.0 ≡ c.seat.inside.inner.me.0 = ap (λ m. m.0) e.3 in
    let holds : c.seat.inside.inner.me.0.taken ≡ Some changed.0 = ap (λ s. s.taken) c.seat.view_is ∙ changed.2 in
    let carried : c.exchange-before.new.seat.me.1 ≡ (0, Some c.args.value) ∷ [] = ap (λ m. m.1) e.3 ∙ ap (λ l. (0, Some c.args.value) ∷ rest l) (c.seat.invariant.0.holds changed.0 holds) in
    let place : c.exchange-before.new.seat.me.0.first ≡ c.args.seat.now.number = ap (λ v. v.first) view ∙ ap (λ s. s.number) c.seat.view_is in
    let seen : c.exchange-before.new.seat.me.0.version ≡ c.args.seat.now.version = ap (λ v. v.version) view ∙ ap (λ s. s.version) c.seat.view_is in
    let later : c.exchange-before.new.seat.me.0.version ≤ g.T.Rows.version c.args.value = omega (arith, c.requires.version) in (
      e.0 ∙ (ap (λ s. s.lock) c.seat.view_is ∙ (c.requires.seat ∙ sym (ap (λ l. l.id) c.self.view_is))),
      word,
      may_put g.T.Rows.rows g.T.Rows.version _ _ _ _ c.args.value changed.0 own.0 changed.1 (ap (λ v. v.own) view ∙ own.1) (ap (λ v. v.taken) view ∙ holds) carried (changed.3 ∙ ap (λ k. set changed.0 k changed.1) (sym place)) later,
    )

pub returns : goal.returns
returns g c =
    let e = c.exchange-before.ensures in
    let changed = c.requires.row in
    let view : c.exchange-before.new.seat.me.0 ≡ c.seat.inside.inner.me.0 = ap (λ m. m.0) e.3 in
    let holds : c.seat.inside.inner.me.0.taken ≡ Some changed.0 = ap (λ s. s.taken) c.seat.view_is ∙ changed.2 in
    let carried : c.exchange-before.new.seat.me.1 ≡ (0, Some c.args.value) ∷ [] = ap (λ m. m.1) e.3 ∙ ap (λ l. (0, Some c.args.value) ∷ rest l) (c.seat.invariant.0.holds changed.0 holds) in
    let told = (c.store.ensures.2 c.args.value carried).1 in
    rests c.seat.inside.inner c.store.new.seat c.args.seat.now (g.T.Rows.rows c.args.value) (g.T.Rows.version c.args.value) told.0 c.seat.view_is (c.store.ensures.0 ∙ e.0)
    (told.2 ∙ ap (λ v. putting v told.0 (g.T.Rows.version c.args.value)) view)
    (subst (λ v. get_elem? (g.T.Rows.rows c.args.value) v.first ≡ some told.0) view told.1)
