-- What changes add to counts.
use Rattle.std.proofs.Common.{◌≡◌, ℕ, ◌+◌, ◌<◌, ◌≤◌, Bool, true, false, cond, List, [], ◌∷◌, ◌++◌, length, get_or, take, ℤ, pos, ◌+ℤ◌, SFits, w64, refl, sym, ap, subst, ◌∙◌, ⊎_elim, arith}
use Rattle.std.proofs.lemmas.Int.{ints}
use Rattle.std.proofs.lemmas.List.{take_more}
use Rattle.mp_names.specs.declared.locations.Loc.{Loc}
use Rattle.mp_names.specs.declared.pointstamps.Change.{Change}
use Rattle.mp_stamps.specs.Counts.{CountTable, IsCounted, SamePlaces, count_in}
use Rattle.mp_stamps.proofs.Places.{is_stamp-self, is_stamp-true}
use Rattle.mp_stamps.proofs.Tables.{counted_or_not}
use Rattle.mp_rows.specs.Entries.{is_at, sum_at}
use Rattle.mp_rows.proofs.Sums.{sum_at-append}
use Rattle.mp_board.specs.Totals.{FitsMore, HasRoomFor}
use Rattle.std.proofs.lemmas.Bool.{false≢true}

-- Room

pub fits_fewer : (n k : ℕ) (z : ℤ) → k ≤ n → FitsMore n z → FitsMore k z
fits_fewer n k z l h = record { low = omega (arith, ints, h.low); high = omega (arith, ints, h.high) }

fits_next : (k : ℕ) (z by : ℤ) → SFits w64 by → FitsMore (1 + k) z → FitsMore k (z +ℤ by)
fits_next k z by f h = record { low = omega (arith, ints, h.low, f); high = omega (arith, ints, h.high, f) }

plus_none : (x y : ℤ) → x ≡ y → x ≡ y +ℤ (pos 0 +ℤ pos 0)
plus_none x y e = omega (arith, ints)

plus_one : (x y z : ℤ) → x ≡ y +ℤ z → x ≡ y +ℤ (z +ℤ pos 0)
plus_one x y z e = omega (arith, ints)

-- Places

pub counted_along : (a b : CountTable) (loc : Loc) (t : ℕ) → SamePlaces a b → IsCounted b loc t → IsCounted a loc t
counted_along a b loc t s h = rw (← s.stages, ← s.times, ← s.low) h

pub counted_on : (a b : CountTable) (loc : Loc) (t : ℕ) → SamePlaces a b → IsCounted a loc t → IsCounted b loc t
counted_on a b loc t s h = rw (s.stages, s.times, s.low) h

-- One change

module _ (old new : CountTable) (change : Change) (others : (at : Loc) (t : ℕ) → ((at ≡ change.at.loc) × (t ≡ change.at.time) → ⊥) → count_in new at t ≡ count_in old at t) where
  elsewhere : (loc : Loc) (t : ℕ) → is_at loc t change ≡ false → count_in new loc t ≡ count_in old loc t
  elsewhere loc t e = others loc t (λ p. false≢true (sym e ∙ is_stamp-self loc t change.at (sym p.0) (sym p.1)))

  module _ (here : IsCounted old change.at.loc change.at.time → count_in new change.at.loc change.at.time ≡ count_in old change.at.loc change.at.time +ℤ change.by) where
    pub one_counted : (loc : Loc) (t : ℕ) → IsCounted old loc t → count_in new loc t ≡ count_in old loc t +ℤ sum_at (change ∷ []) loc t
    one_counted loc t counted = pick (is_at loc t change) refl
      where
        at_place : (l : Loc) (u : ℕ) → change.at.loc ≡ l → change.at.time ≡ u → IsCounted old l u → count_in new l u ≡ count_in old l u +ℤ change.by
        at_place l u e f = subst (λ (m : Loc). IsCounted old m u → count_in new m u ≡ count_in old m u +ℤ change.by) e (subst (λ (v : ℕ). IsCounted old change.at.loc v → count_in new change.at.loc v ≡ count_in old change.at.loc v +ℤ change.by) f here)

        pick : (b : Bool) → is_at loc t change ≡ b → count_in new loc t ≡ count_in old loc t +ℤ (cond b change.by (pos 0) +ℤ pos 0)
        pick true e = let p = is_stamp-true loc t change.at e in plus_one (count_in new loc t) (count_in old loc t) change.by (at_place loc t p.0 p.1 counted)
        pick false e = plus_none (count_in new loc t) (count_in old loc t) (elsewhere loc t e)

    module _ (dropped : (IsCounted old change.at.loc change.at.time → ⊥) → count_in new change.at.loc change.at.time ≡ count_in old change.at.loc change.at.time) where
      pub one_dropped : (loc : Loc) (t : ℕ) → (IsCounted old loc t → ⊥) → count_in new loc t ≡ count_in old loc t
      one_dropped loc t not = pick (is_at loc t change) refl
        where
          at_place : (l : Loc) (u : ℕ) → change.at.loc ≡ l → change.at.time ≡ u → (IsCounted old l u → ⊥) → count_in new l u ≡ count_in old l u
          at_place l u e f = subst (λ (m : Loc). (IsCounted old m u → ⊥) → count_in new m u ≡ count_in old m u) e (subst (λ (v : ℕ). (IsCounted old change.at.loc v → ⊥) → count_in new change.at.loc v ≡ count_in old change.at.loc v) f dropped)

          pick : (b : Bool) → is_at loc t change ≡ b → count_in new loc t ≡ count_in old loc t
          pick true e = let p = is_stamp-true loc t change.at e in at_place loc t p.0 p.1 not
          pick false e = elsewhere loc t e

      pub one_room : SFits w64 change.by → (k : ℕ) → HasRoomFor (1 + k) old → HasRoomFor k new
      one_room fits k h loc t =
          ⊎_elim
          (λ (c : IsCounted old loc t). subst (FitsMore k) (sym (one_counted loc t c)) (part (is_at loc t change)))
          (λ (n : IsCounted old loc t → ⊥). subst (FitsMore k) (sym (one_dropped loc t n)) (fits_fewer (1 + k) k (count_in old loc t) (omega arith) (h loc t)))
          (counted_or_not old loc t)
        where
          part : (b : Bool) → FitsMore k (count_in old loc t +ℤ (cond b change.by (pos 0) +ℤ pos 0))
          part true = subst (FitsMore k) (plus_one (count_in old loc t +ℤ change.by) (count_in old loc t) change.by refl) (fits_next k (count_in old loc t) change.by fits (h loc t))
          part false = subst (FitsMore k) (plus_none (count_in old loc t) (count_in old loc t) refl) (fits_fewer (1 + k) k (count_in old loc t) (omega arith) (h loc t))

-- One more change of a list

pub more_parts : (new old start so_far here next : ℤ) → new ≡ old +ℤ here → old ≡ start +ℤ so_far → next ≡ so_far +ℤ here → new ≡ start +ℤ next
more_parts new old start so_far here next e f g = omega (arith, ints)

pub more_counted : (changes : List Change) (i : ℕ) (d : Change) (loc : Loc) (t : ℕ) (start old new : ℤ) → i < length changes → new ≡ old +ℤ sum_at (get_or changes i d ∷ []) loc t → old ≡ start +ℤ sum_at (take i changes) loc t → new ≡ start +ℤ sum_at (take (i + 1) changes) loc t
more_counted changes i d loc t start old new l e f =
    more_parts new old start (sum_at (take i changes) loc t) (sum_at (get_or changes i d ∷ []) loc t) (sum_at (take (i + 1) changes) loc t) e f
    (ap (λ (xs : List Change). sum_at xs loc t) (take_more changes i d l) ∙ sum_at-append (take i changes) (get_or changes i d ∷ []) loc t)

-- Room, by equal numbers

pub room_more : (n : ℕ) (z : ℤ) → FitsMore n z → FitsMore (n + 0) z
room_more n z h = let e : n ≡ n + 0 = omega arith in subst (λ (k : ℕ). FitsMore k z) e h

pub room_less : (counts : CountTable) (m k : ℕ) → HasRoomFor ((1 + m) + k) counts → HasRoomFor (1 + (m + k)) counts
room_less counts m k h loc t = let e : (1 + m) + k ≡ 1 + (m + k) = omega arith in subst (λ (n : ℕ). FitsMore n (count_in counts loc t)) e (h loc t)

pub room_none : (counts : CountTable) (k : ℕ) → HasRoomFor (0 + k) counts → HasRoomFor k counts
room_none counts k h loc t = let e : 0 + k ≡ k = omega arith in subst (λ (n : ℕ). FitsMore n (count_in counts loc t)) e (h loc t)

-- Lists of changes, one after the other

-- so many changes were added, where counts are kept
pub record Adds (number : ℕ) (changes : List Change) (old new : CountTable) : Type 0 where
  pub counted : (loc : Loc) (t : ℕ) → IsCounted old loc t → count_in new loc t ≡ count_in old loc t +ℤ sum_at changes loc t
  pub dropped : (loc : Loc) (t : ℕ) → (IsCounted old loc t → ⊥) → count_in new loc t ≡ count_in old loc t
  pub same : SamePlaces old new
  pub room : (k : ℕ) → HasRoomFor (number + k) old → HasRoomFor k new

pub both_added : (m n : ℕ) (first then : List Change) (a b c : CountTable) → Adds m first a b → Adds n then b c → Adds (m + n) (first ++ then) a c
both_added m n first then a b c one two = record {
  counted = λ loc t h.
      more_parts (count_in c loc t) (count_in b loc t) (count_in a loc t) (sum_at first loc t) (sum_at then loc t) (sum_at (first ++ then) loc t)
      (two.counted loc t (counted_on a b loc t one.same h)) (one.counted loc t h) (sum_at-append first then loc t);
  dropped = λ loc t h. two.dropped loc t (λ k. h (counted_along a b loc t one.same k)) ∙ one.dropped loc t h;
  same = record { stages = two.same.stages ∙ one.same.stages; times = two.same.times ∙ one.same.times; low = two.same.low ∙ one.same.low };
  room = λ k h. two.room k (one.room (n + k) (let e : (m + n) + k ≡ m + (n + k) = omega arith in subst (λ (i : ℕ). HasRoomFor i a) e h));
}
