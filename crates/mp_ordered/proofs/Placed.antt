-- Where an item is put in a list of two parts, and where the first item is found that doesn't come before it.
use Rattle.std.proofs.Common.{◌≡◌, ℕ, zero, suc, ◌<◌, ◌≤◌, Bool, true, false, cond, not, Option, None, Some, List, [], ◌∷◌, ◌++◌, All, AllPairs, length, get_or, refl, ap, sym, ⊎_elim, arith}
use Rattle.std.specs.Prelude.{IfSome, slice_get}
use Rattle.std.specs.Borrow.{Bor}
use Rattle.std.specs.Option.{option_copied}
use Rattle.std.proofs.lemmas.Bool.{both_ways, cases_Bool}
use Rattle.std.proofs.lemmas.List.Elements.{All-nil, All-cons, All-head, All-tail}
use Rattle.std.proofs.lemmas.List.Kept.{AllPairs-cons}
use Rattle.mp_names.specs.Names.{is_before}
use Rattle.mp_ordered.specs.Blocks.{begins_before}
use Rattle.mp_ordered.specs.InOrder.{first_from, put_in_order}
use Rattle.mp_ordered.proofs.Placing.{pairs_head, pairs_tail, split_before}

-- pairs of a list of two parts

pub all_front : {X : Type 0} (P : X → Type 0) (xs ys : List X) → All P (xs ++ ys) → All P xs
all_front P [] ys h = All-nil P
all_front P (x ∷ xs) ys h = All-cons P x xs (All-head P x (xs ++ ys) h) (all_front P xs ys (All-tail P x (xs ++ ys) h))

pub all_back : {X : Type 0} (P : X → Type 0) (xs ys : List X) → All P (xs ++ ys) → All P ys
all_back P [] ys h = h
all_back P (x ∷ xs) ys h = all_back P xs ys (All-tail P x (xs ++ ys) h)

pub pairs_front : {X : Type 0} (R : X → X → Type 0) (xs ys : List X) → AllPairs R (xs ++ ys) → AllPairs R xs
pairs_front R [] ys h = λ i j d l m. absurd (omega (arith, m))
pairs_front R (x ∷ xs) ys h = AllPairs-cons R x xs (all_front (R x) xs ys (pairs_head R x (xs ++ ys) h)) (pairs_front R xs ys (pairs_tail R x (xs ++ ys) h))

pub pairs_back : {X : Type 0} (R : X → X → Type 0) (xs ys : List X) → AllPairs R (xs ++ ys) → AllPairs R ys
pairs_back R [] ys h = h
pairs_back R (x ∷ xs) ys h = pairs_back R xs ys (pairs_tail R x (xs ++ ys) h)

module _ {T : Type 0} (rank : T → List ℕ) (x : T) where
  abbrev pub Before : T → Type 0
  Before y = is_before (rank y) (rank x) ≡ true

  abbrev pub NotAfter : T → T → Type 0
  NotAfter y z = is_before (rank z) (rank y) ≡ false

  -- an item that comes after the first part is put into the second
  pub put_behind : (xs ys : List T) → All Before xs → put_in_order rank x (xs ++ ys) ≡ xs ++ put_in_order rank x ys
  put_behind [] ys h = refl
  put_behind (z ∷ xs) ys h = let e : is_before (rank z) (rank x) ≡ true = All-head Before z xs h in rw e (ap (λ (r : List T). z ∷ r) (put_behind xs ys (All-tail Before z xs h)))

  -- one that doesn't come after the second part's first is put into the first part
  pub put_within : (xs ys : List T) → begins_before rank x ys ≡ false → put_in_order rank x (xs ++ ys) ≡ put_in_order rank x xs ++ ys
  put_within [] [] h = refl
  put_within [] (y ∷ ys) h = rw h refl
  put_within (z ∷ xs) ys h = either (is_before (rank z) (rank x)) z xs ys (put_within xs ys h)
    where
      either : (b : Bool) (z : T) (xs ys : List T) → put_in_order rank x (xs ++ ys) ≡ put_in_order rank x xs ++ ys → cond b (z ∷ put_in_order rank x (xs ++ ys)) (x ∷ z ∷ (xs ++ ys)) ≡ cond b (z ∷ put_in_order rank x xs) (x ∷ z ∷ xs) ++ ys
      either true z xs ys e = ap (λ (r : List T). z ∷ r) e
      either false z xs ys e = refl

  -- where none is found, all come before the item
  pub none_from : (xs : List T) → first_from rank x xs ≡ None → All Before xs
  none_from [] h = All-nil Before
  none_from (z ∷ xs) h = ⊎_elim (λ (e : is_before (rank z) (rank x) ≡ true). let rest : first_from rank x xs ≡ None = rw e at h in All-cons Before z xs e (none_from xs rest)) (λ (e : is_before (rank z) (rank x) ≡ false). let bad : Some z ≡ None = rw e at h in absurd (cc)) (cases_Bool (is_before (rank z) (rank x)))

  -- and the other way round
  pub from_none : (xs ys : List T) → All Before xs → first_from rank x (xs ++ ys) ≡ first_from rank x ys
  from_none [] ys h = refl
  from_none (z ∷ xs) ys h = let e : is_before (rank z) (rank x) ≡ true = All-head Before z xs h in rw e (from_none xs ys (All-tail Before z xs h))

  -- what is found in the first part
  pub found_within : (xs ys : List T) (y : T) → first_from rank x xs ≡ Some y → first_from rank x (xs ++ ys) ≡ Some y
  found_within [] ys y h = absurd (cc)
  found_within (z ∷ xs) ys y h = ⊎_elim (λ (e : is_before (rank z) (rank x) ≡ true). let rest : first_from rank x xs ≡ Some y = rw e at h in rw e (found_within xs ys y rest)) (λ (e : is_before (rank z) (rank x) ≡ false). rw e (rw e at h)) (cases_Bool (is_before (rank z) (rank x)))

  -- an item is put into the first part where that has one that doesn't come before it
  pub put_where_found : (xs ys : List T) (y : T) → first_from rank x xs ≡ Some y → put_in_order rank x (xs ++ ys) ≡ put_in_order rank x xs ++ ys
  put_where_found [] ys y h = absurd (cc)
  put_where_found (z ∷ xs) ys y h = ⊎_elim (λ (e : is_before (rank z) (rank x) ≡ true). let rest : first_from rank x xs ≡ Some y = rw e at h in rw e (ap (λ (r : List T). z ∷ r) (put_where_found xs ys y rest))) (λ (e : is_before (rank z) (rank x) ≡ false). rw e refl) (cases_Bool (is_before (rank z) (rank x)))

  -- what begins a list that doesn't begin before the item is found
  pub found_first : (y : T) (ys : List T) → begins_before rank x (y ∷ ys) ≡ false → first_from rank x (y ∷ ys) ≡ Some y
  found_first y ys h = rw h refl

  -- the place after all that come before the item
  pub found_at : (ys : List T) (at : ℕ) → at ≤ length ys → ((k : ℕ) (d : T) → k < at → Before (get_or ys k d)) → ((d : T) → at < length ys → is_before (rank (get_or ys at d)) (rank x) ≡ false) → slice_get ys at ≡ first_from rank x ys
  found_at [] at l h g = refl
  found_at (y ∷ ys) zero l h g = let e : is_before (rank y) (rank x) ≡ false = g y (omega arith) in rw e refl
  found_at (y ∷ ys) (suc at) l h g = let e : is_before (rank y) (rank x) ≡ true = h 0 y (omega arith) in rw e (found_at ys at (omega arith) (λ k d m. h (suc k) d (omega arith)) (λ d m. g d (omega arith)))

  -- what isn't after one that comes before the item comes before it
  pub still_before : (y z : T) → NotAfter y z → Before z → Before y
  still_before y z not b = ⊎_elim (λ (k : is_before (rank z) (rank y) ≡ true). absurd (both_ways (is_before (rank z) (rank y)) not k)) (λ (k : is_before (rank y) (rank x) ≡ true). k) (split_before (rank z) (rank x) (rank y) b)

-- what stands at a place, and past the end
pub got : {T : Type 0} (ys : List T) (n : ℕ) (y : T) → n < length ys → y ≡ get_or ys n y → slice_get ys n ≡ Some y
got [] n y l e = absurd (omega arith)
got (z ∷ ys) zero y l e = ap (λ (w : _). Some w) (sym e)
got (z ∷ ys) (suc n) y l e = got ys n y (omega arith) e

pub got_past : {T : Type 0} (ys : List T) (n : ℕ) → length ys ≤ n → slice_get ys n ≡ None
got_past [] n l = refl
got_past (z ∷ ys) zero l = absurd (omega arith)
got_past (z ∷ ys) (suc n) l = got_past ys n (omega arith)

-- what is known of a borrowed element
pub if_some : {T : Type 0} (r : Option (Bor T)) (o : Option T) (P : T → Type 0) → option_copied r ≡ o → ((y : T) → o ≡ Some y → P y) → IfSome r (λ x. P x.now)
if_some None o P e k = tt
if_some (Some x) o P e k = k x.now (sym e)
