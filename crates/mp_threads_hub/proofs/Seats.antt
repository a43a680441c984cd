-- Seats, as one goes from the front of the list to the end of the list of ways.
use Rattle.std.proofs.Common.{◌≡◌, ℕ, zero, suc, ◌+◌, ◌<◌, ◌≤◌, List, [], ◌∷◌, ◌++◌, Some, All, length, sym, ap, ◌∙◌, subst, arith, append_assoc, get_or, refl}
use Rattle.std.specs.Prelude.{slice_get}
use Rattle.std.proofs.lemmas.List.{length-append}
use Rattle.std.proofs.lemmas.Option.{get_or_from_slice_get}
use Rattle.mp_names.specs.Logs.{Log}
use Rattle.mp_seat.specs.Seats.{AreNew, IsIdle, LockIdentity, SeatState}
use Rattle.mp_threads_hub.specs.Hubs.{AreNewHubs, AreOfOneLock}

module _ {A : Type 0} (P : A → Type 0) where
  pub all_first : (all : List A) (x : A) (xs : List A) → all ≡ x ∷ xs → All P all → P x
  all_first all x xs e h = subst (λ (l : List A). (k : ℕ) (d : A) → k < length l → P (get_or l k d)) e h 0 x (omega arith)

  pub all_others : (all : List A) (x : A) (xs : List A) → all ≡ x ∷ xs → All P all → All P xs
  all_others all x xs e h k d l = subst (λ (l : List A). (k : ℕ) (d : A) → k < length l → P (get_or l k d)) e h (suc k) d (omega arith)

module _ {A : Type 0} (now was : List A) (x : A) (left rest : List A) (y : A) (put : now ≡ was ++ x ∷ []) (took : left ≡ y ∷ rest) where
  -- both lists together stay the same
  pub passed_over : (all : List A) → x ≡ y → was ++ left ≡ all → now ++ rest ≡ all
  passed_over all same before =
      ap (λ l. l ++ rest) put ∙ append_assoc was (x ∷ []) rest ∙ ap (λ z. was ++ z ∷ rest) same ∙ sym (ap (λ l. was ++ l) took) ∙ before

  -- and so does their length
  pub room_stays : (room more : ℕ) → room ≤ more → length was + length left ≤ room → length now + length rest ≤ more
  room_stays room more grows before =
      let a = ap length put in
      let b = ap length took in
      let c = length-append was (x ∷ []) in
      omega arith

at_place : {A : Type 0} (xs : List A) (k : ℕ) → k < length xs → (x : A) × (slice_get xs k ≡ Some x)
at_place [] k l = absurd (omega arith)
at_place (x ∷ xs) zero l = (x, refl)
at_place (x ∷ xs) (suc k) l = at_place xs k (omega arith)

module _ (lock : LockIdentity) (rows : List Log) (version : ℕ) (seats : List (SeatState Log)) (new : AreNew lock rows version seats) where
  -- new seats are idle
  pub new_are_idle : All (IsIdle lock) seats
  new_are_idle k d l =
      let at = at_place seats k l in
      let is = new k at.0 at.1 in
      subst (IsIdle lock) (sym (get_or_from_slice_get seats k at.0 d at.1)) (ap (λ (s : SeatState Log). s.lock) is, ap (λ (s : SeatState Log). s.taken) is)

  -- and of one lock
  pub of_one_lock : AreOfOneLock seats
  of_one_lock = (lock, λ k d l. (new_are_idle k d l).0)

  -- and ways to a new board, where the lock has a seat for each row
  pub are_new_hubs : lock.seats ≡ length rows → AreNewHubs rows version seats
  are_new_hubs many k seat at =
      let is = new k seat at in
      record {
        number = ap (λ (s : SeatState Log). s.number) is;
        many = ap (λ (s : SeatState Log). s.seats) is ∙ many;
        row = ap (λ (s : SeatState Log). s.row) is;
        saw = ap (λ (s : SeatState Log). s.version) is;
      }
