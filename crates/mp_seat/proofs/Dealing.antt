-- How seats are dealt when a lock is opened.
use Rattle.std.proofs.Common.{◌≡◌, ℕ, suc, ◌+◌, ◌<◌, List, [], ◌∷◌, length, drop, sym, ap, ◌∙◌, arith, Option, None, slice_get}
use mathlib.Core.Option.{some}
use lib.ListN.{get_elem?}
use Rattle.std.proofs.lemmas.List.{drop_all}
use Rattle.atomic_table.specs.declared.shared.Seat.{Seat}
use Rattle.atomic_table.proofs.Lists.{drop_at}
use Rattle.mp_seat.specs.declared.view.SeatView.{SeatView}
use Rattle.mp_seat.specs.Seats.{LockIdentity, new_seat}
use Rattle.mp_seat.specs.Rule.{first_of, others_of, first_row, other_rows}
use Rattle.mp_seat.specs.Seated.{seat_state, HasOneRow, HasRest}
use Rattle.mp_seat.proofs.Places.{there_is, got, some_not_none}

pub next_row : {R : Type 0} (rows : List R) (k : ℕ) → k < length rows → (r : R) × (get_elem? rows k ≡ some r) × (drop k rows ≡ r ∷ drop (suc k) rows)
next_row rows k h = let t = there_is rows k h in (t.0, t.1, drop_at rows k t.0 t.1)

module _ {T R : Type 0} (lock : LockIdentity) (rows : List R) (version k : ℕ) where
  is_new : (s : Seat (Option T) (SeatView R)) (r : R) → s.table_id ≡ lock.id → s.me.0.seats ≡ lock.seats → s.me.0.first ≡ k → s.me.0.own ≡ r ∷ [] → get_elem? rows k ≡ some r → s.me.0.version ≡ version → s.me.0.taken ≡ None
      → seat_state s ≡ new_seat lock rows version k
  is_new s r of_lock seats first own at version_is idle =
      let row : slice_get s.me.0.own 0 ≡ slice_get rows k = ap (λ l. slice_get l 0) own ∙ sym (got rows k r at) in
      λ i. record { lock = of_lock i; seats = seats i; number = first i; row = row i; version = version_is i; taken = idle i }

  pub rest_of : (s s' : Seat (Option T) (SeatView R)) → HasRest lock rows version k s → k < length rows → s'.table_id ≡ s.table_id → s'.me ≡ (other_rows s.me.0, s.me.1) → HasRest lock rows version (k + 1) s'
  rest_of s s' h more same is =
      let t = next_row rows k more in
      let view : s'.me.0 ≡ other_rows s.me.0 = ap (λ m. m.0) is in
      record {
        of_lock = same ∙ h.of_lock;
        carries = ap (λ m. m.1) is ∙ h.carries;
        seats_is = ap (λ (v : SeatView R). v.seats) view ∙ h.seats_is;
        first_is = ap (λ (v : SeatView R). v.first) view ∙ ap (λ j. j + 1) h.first_is;
        own_is = let z : suc k ≡ k + 1 = omega arith in ap (λ (v : SeatView R). v.own) view ∙ (ap others_of (h.own_is ∙ t.2) ∙ ap (λ j. drop j rows) z);
        version_is = ap (λ (v : SeatView R). v.version) view ∙ h.version_is;
        idle = ap (λ (v : SeatView R). v.taken) view;
      }

  dealt_own : (s s' : Seat (Option T) (SeatView R)) → HasRest lock rows version k s → (more : k < length rows) → s'.me ≡ (first_row s.me.0, []) → s'.me.0.own ≡ (next_row rows k more).0 ∷ []
  dealt_own s s' h more is = ap (λ m. m.0.own) is ∙ ap first_of (h.own_is ∙ (next_row rows k more).2)

  pub dealt_is_new : (s s' : Seat (Option T) (SeatView R)) → HasRest lock rows version k s → k < length rows → s'.table_id ≡ s.table_id → s'.me ≡ (first_row s.me.0, []) → seat_state s' ≡ new_seat lock rows version k
  dealt_is_new s s' h more same is =
      let t = next_row rows k more in
      let view : s'.me.0 ≡ first_row s.me.0 = ap (λ m. m.0) is in
      is_new s' t.0 (same ∙ h.of_lock) (ap (λ (v : SeatView R). v.seats) view ∙ h.seats_is) (ap (λ (v : SeatView R). v.first) view ∙ h.first_is) (dealt_own s s' h more is) t.1
      (ap (λ (v : SeatView R). v.version) view ∙ h.version_is) (ap (λ (v : SeatView R). v.taken) view)

  pub dealt_has_one : (s s' : Seat (Option T) (SeatView R)) → HasRest lock rows version k s → k < length rows → s'.me ≡ (first_row s.me.0, []) → HasOneRow s'
  dealt_has_one s s' h more is = record {
    one = ap length (dealt_own s s' h more is);
    idle = λ _. ap (λ m. m.1) is;
    holds = λ all has. absurd (some_not_none s'.me.0.taken all has (ap (λ m. m.0.taken) is));
  }

  -- the last seat keeps what is left, which is one row
  last_own : (s : Seat (Option T) (SeatView R)) → HasRest lock rows version k s → suc k ≡ length rows → (more : k < length rows) → s.me.0.own ≡ (next_row rows k more).0 ∷ []
  last_own s h last more = h.own_is ∙ ((next_row rows k more).2 ∙ ap (λ l. (next_row rows k more).0 ∷ l) (drop_all (suc k) rows (omega arith)))

  pub last_is_new : (s : Seat (Option T) (SeatView R)) → HasRest lock rows version k s → suc k ≡ length rows → seat_state s ≡ new_seat lock rows version k
  last_is_new s h last =
      let more : k < length rows = omega arith in
      let t = next_row rows k more in
      is_new s t.0 h.of_lock h.seats_is h.first_is (last_own s h last more) t.1 h.version_is h.idle

  pub last_has_one : (s : Seat (Option T) (SeatView R)) → HasRest lock rows version k s → suc k ≡ length rows → HasOneRow s
  last_has_one s h last = let more : k < length rows = omega arith in record {
    one = ap length (last_own s h last more);
    idle = λ _. h.carries;
    holds = λ all has. absurd (some_not_none s.me.0.taken all has h.idle);
  }
