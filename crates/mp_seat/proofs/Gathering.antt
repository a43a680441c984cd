-- How seats are gathered when a lock is closed, from the last one on.
use Rattle.std.proofs.Common.{◌≡◌, ℕ, ◌+◌, List, [], ◌∷◌, ◌++◌, length, map, sym, ap, ◌∙◌, arith, append_assoc, length-append, Option, Some, None, slice_get}
use Prim.Native.Nat.{max}
use mathlib.Core.Option.{some, some-injective}
use lib.ListN.{get_elem?}
use Rattle.std.proofs.lemmas.List.{map-append}
use Rattle.atomic_table.specs.Table.{Final, Seen}
use Rattle.atomic_table.specs.declared.shared.Seat.{Seat}
use Rattle.mp_seat.specs.declared.view.SeatView.{SeatView}
use Rattle.mp_seat.specs.Seats.{SeatState, LockIdentity, IsIdle, AreInOrder, latest_version}
use Rattle.mp_seat.specs.Rule.{KeepsRows, joined}
use Rattle.mp_seat.specs.Seated.{seat_state, HasOneRow}
use Rattle.mp_seat.proofs.Places.{each_last, each_fewer, one_of}
use Rattle.mp_seat.proofs.Keeps.{at_end}

latest-append : {R : Type 0} (xs ys : List (SeatState R)) → latest_version (xs ++ ys) ≡ max (latest_version xs) (latest_version ys)
latest-append [] ys = omega arith
latest-append (x ∷ xs) ys = let h = latest-append xs ys in omega arith

abbrev row_of : {R : Type 0} → SeatState R → Option R
row_of s = s.row

abbrev some_row : {R : Type 0} → R → Option R
some_row r = Some r

last_idle : {R : Type 0} (lock : LockIdentity) (before : List (SeatState R)) (x : SeatState R) → AreInOrder lock (before ++ x ∷ []) → IsIdle lock x × (x.number ≡ length before)
last_idle {R} lock before x all = each_last (λ k (s : SeatState R). IsIdle lock s × (s.number ≡ k)) before x all

pub fewer_idle : {R : Type 0} (lock : LockIdentity) (before : List (SeatState R)) (x : SeatState R) → AreInOrder lock (before ++ x ∷ []) → AreInOrder lock before
fewer_idle {R} lock before x all = each_fewer (λ k (s : SeatState R). IsIdle lock s × (s.number ≡ k)) before x all

module _ {T R : Type 0} (lock : LockIdentity) where
  -- a seat of the table that has gathered the rows from its place on: what is `before` and what it has gathered are the `whole`
  pub record Gathers (before whole : List (SeatState R)) (s : Seat (Option T) (SeatView R)) : Type 0 where
    pub of_lock : s.table_id ≡ lock.id
    pub carries : s.me.1 ≡ []
    pub idle : s.me.0.taken ≡ None
    pub first_is : s.me.0.first ≡ length before
    pub ends : s.me.0.first + length s.me.0.own ≡ lock.seats
    pub some_rows : (r : R) × (left : List R) × (s.me.0.own ≡ r ∷ left)
    pub rows_are : map row_of before ++ map some_row s.me.0.own ≡ map row_of whole
    pub version_is : max (latest_version before) s.me.0.version ≡ latest_version whole

  own_row : (s : Seat (Option T) (SeatView R)) (x : SeatState R) → seat_state s ≡ x → HasOneRow s → (r : R) × (s.me.0.own ≡ r ∷ []) × (x.row ≡ Some r)
  own_row s x is one = let r = one_of s.me.0.own one.one in (r.0, r.1, ap row_of (sym is) ∙ ap (λ (l : List R). slice_get l 0) r.1)

  pub gather_first : (before : List (SeatState R)) (x : SeatState R) (s : Seat (Option T) (SeatView R)) → seat_state s ≡ x → HasOneRow s → AreInOrder lock (before ++ x ∷ []) → length (before ++ x ∷ []) ≡ lock.seats
      → Gathers before (before ++ x ∷ []) s
  gather_first before x s is one all many =
      let last = last_idle lock before x all in
      let r = own_row s x is one in
      let idle : s.me.0.taken ≡ None = ap (λ (b : SeatState R). b.taken) is ∙ last.0.1 in
      let first : s.me.0.first ≡ length before = ap (λ (b : SeatState R). b.number) is ∙ last.1 in
      let seen : s.me.0.version ≡ x.version = ap (λ (b : SeatState R). b.version) is in
      record {
        of_lock = ap (λ (b : SeatState R). b.lock) is ∙ last.0.0;
        carries = one.idle idle;
        idle = idle;
        first_is = first;
        ends = let o = one.one in omega (arith, length-append before (x ∷ []));
        some_rows = (r.0, [], r.1);
        rows_are = ap (λ l. map row_of before ++ map some_row l) r.1 ∙ (ap (λ o. map row_of before ++ o ∷ []) (sym r.2) ∙ sym (map-append row_of before (x ∷ [])));
        version_is = omega (arith, latest-append before (x ∷ []));
      }

  pub gather_meets : (before whole : List (SeatState R)) (x : SeatState R) (s w : Seat (Option T) (SeatView R)) → seat_state w ≡ x → HasOneRow w → AreInOrder lock (before ++ x ∷ []) → Gathers (before ++ x ∷ []) whole s
      → (w.table_id ≡ lock.id) × (w.me.1 ≡ []) × (w.me.0.taken ≡ None) × (w.me.0.first + length w.me.0.own ≡ s.me.0.first)
  gather_meets before whole x s w is one all h =
      let last = last_idle lock before x all in
      let idle : w.me.0.taken ≡ None = ap (λ (b : SeatState R). b.taken) is ∙ last.0.1 in
      let first : w.me.0.first ≡ length before = ap (λ (b : SeatState R). b.number) is ∙ last.1 in (
        ap (λ (b : SeatState R). b.lock) is ∙ last.0.0,
        one.idle idle,
        idle,
        (let o = one.one in let f = h.first_is in omega (arith, length-append before (x ∷ []))),
      )

  pub gather_more : (before whole : List (SeatState R)) (x : SeatState R) (s w s' : Seat (Option T) (SeatView R)) → seat_state w ≡ x → HasOneRow w → AreInOrder lock (before ++ x ∷ []) → Gathers (before ++ x ∷ []) whole s
      → s'.table_id ≡ s.table_id → s'.me ≡ (joined s.me.0 w.me.0, s.me.1) → Gathers before whole s'
  gather_more before whole x s w s' is one all h same joins =
      let last = last_idle lock before x all in
      let r = own_row w x is one in
      let view : s'.me.0 ≡ joined s.me.0 w.me.0 = ap (λ m. m.0) joins in
      let own : s'.me.0.own ≡ r.0 ∷ s.me.0.own = ap (λ (v : SeatView R). v.own) view ∙ ap (λ l. l ++ s.me.0.own) r.1 in
      let first : s'.me.0.first ≡ length before = ap (λ (v : SeatView R). v.first) view ∙ (ap (λ (b : SeatState R). b.number) is ∙ last.1) in
      let seen : s'.me.0.version ≡ max s.me.0.version w.me.0.version = ap (λ (v : SeatView R). v.version) view in
      let seen' : w.me.0.version ≡ x.version = ap (λ (b : SeatState R). b.version) is in
      record {
        of_lock = same ∙ h.of_lock;
        carries = ap (λ m. m.1) joins ∙ h.carries;
        idle = ap (λ (v : SeatView R). v.taken) view;
        first_is = first;
        ends = let e = h.ends in let f = h.first_is in let o = ap length own in omega (arith, length-append before (x ∷ []));
        some_rows = (r.0, s.me.0.own, own);
        rows_are = ap (λ l. map row_of before ++ map some_row l) own
            ∙ (ap (λ o. map row_of before ++ o ∷ map some_row s.me.0.own) (sym r.2)
            ∙ (sym (append_assoc (map row_of before) (x.row ∷ []) (map some_row s.me.0.own))
            ∙ (ap (λ l. l ++ map some_row s.me.0.own) (sym (map-append row_of before (x ∷ []))) ∙ h.rows_are)));
        version_is = let v = h.version_is in omega (arith, latest-append before (x ∷ []));
      }

  pub gather_done : (left whole : List (SeatState R)) (s : Seat (Option T) (SeatView R)) → length left ≡ 0 → Gathers left whole s
      → (s.me.0.first ≡ 0) × (length s.me.0.own ≡ lock.seats) × (map some_row s.me.0.own ≡ map row_of whole) × (s.me.0.version ≡ latest_version whole)
  gather_done [] whole s none h = (h.first_is, (let f = h.first_is in let e = h.ends in omega arith), h.rows_are, (let v = h.version_is in omega arith))
  gather_done (x ∷ xs) whole s none h = absurd (omega arith)

-- the value that the slot has at the end
pub closes : {T R : Type 0} (rows : T → List R) (version : T → ℕ) (count : ℕ) (id : ℕ) (v : SeatView R) (ws : List ℕ) (xs : List (Option T)) (found : Option T) → v.first ≡ 0 → length v.own ≡ count → v.taken ≡ None
    → Final (Seen (KeepsRows rows version count) id v) ws xs → get_elem? xs 0 ≡ some found → (t : T) × (found ≡ Some t) × (rows t ≡ v.own) × (version t ≡ v.version)
closes rows version count id v ws xs found begin whole idle f e =
    let s = f.0 in
    let t = at_end rows version count id v s begin whole idle f.1.0 f.1.1 in
    let there : get_elem? xs 0 ≡ some (Some t.0) = f.4 0 (Some t.0) (ap (λ (l : List _). get_elem? l 0) t.1) in
    (t.0, some-injective found (Some t.0) (sym e ∙ there), t.2, t.3)
