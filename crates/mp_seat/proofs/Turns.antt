-- A seat after it takes the value, and after it puts it.
use Rattle.std.proofs.Common.{◌≡◌, ℕ, ◌+◌, List, [], ◌∷◌, length, sym, ap, ◌∙◌, arith, Option, None, slice_get}
use mathlib.Core.Option.{some}
use lib.ListN.{get_elem?}
use Rattle.atomic_table.specs.declared.shared.Seat.{Seat}
use Rattle.mp_seat.specs.declared.view.SeatView.{SeatView}
use Rattle.mp_seat.specs.Seats.{SeatState, resting}
use Rattle.mp_seat.specs.Rule.{Stand, putting}
use Rattle.mp_seat.specs.Seated.{seat_state}
use Rattle.mp_seat.proofs.Places.{got, one_of}

-- the row of the seat stands at its number in the value
pub row_stands : {R : Type 0} (rows : List R) (v : SeatView R) → length v.own ≡ 1 → Stand rows v → slice_get rows v.first ≡ slice_get v.own 0
row_stands {R} rows v one stand =
    let r = one_of v.own one in
    let at = stand 0 r.0 (ap (λ (l : List R). get_elem? l 0) r.1) in
    let start : v.first + 0 ≡ v.first = omega arith in
    got rows v.first r.0 (ap (λ k. get_elem? rows k) (sym start) ∙ at) ∙ sym (ap (λ (l : List R). slice_get l 0) r.1)

-- a seat that has put a value
pub rests : {T R : Type 0} (s s' : Seat (Option T) (SeatView R)) (before : SeatState R) (rows : List R) (version : ℕ) (r : R) → seat_state s ≡ before → s'.table_id ≡ s.table_id → s'.me.0 ≡ putting s.me.0 r version → get_elem? rows s.me.0.first ≡ some r
    → seat_state s' ≡ resting before rows version
rests {T} {R} s s' before rows version r was same is at =
    let lock : s'.table_id ≡ before.lock = same ∙ ap (λ (b : SeatState R). b.lock) was in
    let seats : s'.me.0.seats ≡ before.seats = ap (λ (v : SeatView R). v.seats) is ∙ ap (λ (b : SeatState R). b.seats) was in
    let number : s'.me.0.first ≡ before.number = ap (λ (v : SeatView R). v.first) is ∙ ap (λ (b : SeatState R). b.number) was in
    let row : slice_get s'.me.0.own 0 ≡ slice_get rows before.number =
    ap (λ (v : SeatView R). slice_get v.own 0) is ∙ (sym (got rows s.me.0.first r at) ∙ ap (λ (b : SeatState R). slice_get rows b.number) was) in
    let seen : s'.me.0.version ≡ version = ap (λ (v : SeatView R). v.version) is in
    let idle : s'.me.0.taken ≡ None = ap (λ (v : SeatView R). v.taken) is in
    λ i. record { lock = lock i; seats = seats i; number = number i; row = row i; version = seen i; taken = idle i }

-- what stands first in two lists that are one
pub same_first : {A : Type 0} (d : A) (i j : ℕ) (x y : A) (xs ys : List (ℕ × A)) → (i, x) ∷ xs ≡ (j, y) ∷ ys → x ≡ y
same_first {A} d i j x y xs ys e = ap (λ (l : List (ℕ × A)). elim l [ [] ↦ d | (z ∷ zs) ↦ z.1 ]) e
