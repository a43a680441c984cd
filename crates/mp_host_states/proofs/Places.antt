-- Where the first item of a list stands that passes a test.
use Rattle.std.proofs.Common.{◌≡◌, ℕ, zero, suc, ◌<◌, ◌≤◌, nat_lt, Bool, true, false, cond, Option, None, Some, List, [], ◌∷◌, ◌++◌, All, drop, get_or, length, position, slice_get, take, refl, sym, ap, ◌∙◌, subst, append_assoc, arith, length-append, length-take}
use Rattle.std.specs.List.{find, position_or_len}
use Rattle.std.proofs.lemmas.Bool.{lt-ltb, ltb-false}
use Rattle.std.proofs.lemmas.List.{drop_at, get_or-take, get_or_append_left, get_or_at, take-append-drop, take_at}
use Rattle.std.proofs.Math.Seq.{drop-cons}
use Rattle.std.proofs.lemmas.List.Folds.{find_at}
use Rattle.std.proofs.lemmas.List.Quantifiers.{position-Some}
use Rattle.std.proofs.lemmas.List.Sums.{position_or_len_is}

module _ {X : Type 0} where
  item_at : (xs : List X) (i : ℕ) (d : X) → i < length xs → slice_get xs i ≡ Some (get_or xs i d)
  item_at [] i d l = absurd (omega arith)
  item_at (x ∷ xs) zero d l = refl
  item_at (x ∷ xs) (suc i) d l = item_at xs i d (omega arith)

  no_item : (xs : List X) (i : ℕ) → length xs ≤ i → slice_get xs i ≡ None
  no_item [] i l = refl
  no_item (x ∷ xs) zero l = absurd (omega arith)
  no_item (x ∷ xs) (suc i) l = no_item xs i (omega arith)

  -- a list around one place
  pub around : (xs : List X) (i : ℕ) (d : X) → i < length xs → xs ≡ take i xs ++ get_or xs i d ∷ drop (suc i) xs
  around xs i d l = sym (take-append-drop i xs) ∙ ap (λ (ys : List X). take i xs ++ ys) (drop-cons xs i d l)

some_place : (b : Bool) (n i : ℕ) → cond b (Some n) None ≡ Some i → n ≡ i
some_place true n i e = cc
some_place false n i e = absurd cc

none_place : (b : Bool) (n : ℕ) → ◌≡◌ {A = Option ℕ} (cond b (Some n) None) None → b ≡ false
none_place true n e = absurd cc
none_place false n e = refl

module _ {X : Type 0} (p : X → Bool) where
  abbrev pub Fails : X → Type 0
  Fails x = p x ≡ false

  -- The item at the place is the first that passes
  pub record IsFirstAt (xs : List X) (i : ℕ) : Type 0 where
    pub inside : i < length xs
    pub passes : (d : X) → p (get_or xs i d) ≡ true
    pub none_before : All Fails (take i xs)
    pub found : (d : X) → find p xs ≡ Some (get_or xs i d)

  pub place_is : (xs : List X) (i : ℕ) → position p xs ≡ Some i → (d : X) → IsFirstAt xs i
  place_is xs i e d =
      let here = position-Some p xs i d e in
      let place = some_place (nat_lt (position_or_len p xs) (length xs)) (position_or_len p xs) i e in
      record {
        inside = here.0;
        passes = λ c. (position-Some p xs i c e).1;
        none_before = λ k c l. before xs i k c e l;
        found = λ c. find_at p xs ∙ (ap (λ (n : ℕ). slice_get xs n) place ∙ item_at xs i c here.0);
      }
    where
      before : (xs : List X) (i k : ℕ) (c : X) → position p xs ≡ Some i → k < length (take i xs) → Fails (get_or (take i xs) k c)
      before xs i k c e l =
          let few = length-take i xs in
          let below : k < i = omega arith in
          subst Fails (sym (get_or-take i xs k c below)) ((position-Some p xs i c e).2 k below)

  pub no_place : (xs : List X) → position p xs ≡ None → find p xs ≡ None
  no_place xs e =
      let past = ltb-false (position_or_len p xs) (length xs) (none_place (nat_lt (position_or_len p xs) (length xs)) (position_or_len p xs) e) in
      find_at p xs ∙ no_item xs (position_or_len p xs) past

  -- the place of one that passes behind items that don't
  pub place_of : (front : List X) (one : X) (rest : List X) → All Fails front → p one ≡ true → position p (front ++ one ∷ rest) ≡ Some (length front)
  place_of front one rest none e =
      let n = length-append front (one ∷ rest) in
      let inside : length front < length (front ++ one ∷ rest) = omega arith in
      let at = position_or_len_is p (front ++ one ∷ rest) (length front) one (omega arith)
      (λ k l. subst Fails (sym (get_or_append_left front (one ∷ rest) one k l)) (none k one l))
      (λ l. subst (λ (x : X). p x ≡ true) (sym (get_or_at front one rest one (length front) refl)) e) in
      rw (at, lt-ltb (length front) (length (front ++ one ∷ rest)) inside) refl

  -- so that place tells the parts of the list
  pub parts_are : (xs : List X) (i : ℕ) → position p xs ≡ Some i → (front : List X) (one : X) (rest : List X) → xs ≡ front ++ one ∷ rest → All Fails front → p one ≡ true
      → (take i xs ≡ front) × (drop (suc i) xs ≡ rest) × ((d : X) → get_or xs i d ≡ one)
  parts_are xs i e front one rest was none passes =
      let same : i ≡ length front = some_is i (length front) (sym e ∙ (ap (position p) was ∙ place_of front one rest none passes)) in
      let again : front ++ one ∷ rest ≡ front ++ one ∷ [] ++ rest = sym (append_assoc front (one ∷ []) rest) in
      let longer = length-append front (one ∷ []) in (
        rw (was, same) (take_at front (one ∷ rest) (length front) refl),
        rw (was, same, again) (drop_at (front ++ one ∷ []) rest (suc (length front)) (omega arith)),
        λ d. rw (was, same) (get_or_at front one rest d (length front) refl),
      )
    where
      some_is : (a b : ℕ) → ◌≡◌ {A = Option ℕ} (Some a) (Some b) → a ≡ b
      some_is a b e = cc
