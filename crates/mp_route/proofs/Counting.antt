-- The first items of a list, one more at a time: those that pass, and those of several blocks.
use Rattle.std.proofs.Common.{◌≡◌, ℕ, zero, suc, ◌+◌, ◌<◌, ◌≤◌, Bool, true, false, cond, List, [], ◌∷◌, ◌++◌, All, drop, filter, get_or, length, length-append, take, not, refl, sym, ap, ◌∙◌, subst, arith, append-nil, append_assoc}
use Rattle.std.proofs.lemmas.List.{drop_more, take_more}
use Rattle.std.proofs.lemmas.List.Elements.{All-append, All-push, filter-append, filter_more}
use Rattle.std.proofs.lemmas.List.Filters.{length-filter_both}
use Rattle.std.specs.declared.collections.VecDeque.{VecDeque}
use Rattle.std.proofs.Math.Seq.{drop-append_seam}
use Rattle.mp_names.specs.Names.{is_before}
use Rattle.mp_ordered.specs.Blocks.{items_of}
use Rattle.mp_ordered.specs.InOrder.{IsInOrder, begins, put_in_order}
use Rattle.mp_ordered.proofs.Placing.{goes_back, pairs_drop}
use Rattle.mp_ordered.proofs.Fronts.{front_within, items_from, items_next, items_upto}

module _ {X : Type 0} (p : X → Bool) where
  -- one more that passes, or that doesn't
  pub all_more : (xs : List X) (i : ℕ) (x : X) → i < length xs → x ≡ get_or xs i x → p x ≡ true → All (λ y. p y ≡ true) (take i xs) → All (λ y. p y ≡ true) (take (i + 1) xs)
  all_more xs i x l e h a =
      subst (All (λ y. p y ≡ true)) (sym (take_more xs i x l)) (All-push (λ y. p y ≡ true) (take i xs) (get_or xs i x) a (subst (λ (y : X). p y ≡ true) e h))

  with_item : (b : Bool) (x : X) → p x ≡ b → (xs : List X) (i : ℕ) → i < length xs → x ≡ get_or xs i x → filter p (take (i + 1) xs) ≡ filter p (take i xs) ++ cond b (x ∷ []) []
  with_item b x h xs i l e =
      filter_more p xs i x l ∙ ap (λ (y : X). filter p (take i xs) ++ cond (p y) (y ∷ []) []) (sym e) ∙ ap (λ (c : Bool). filter p (take i xs) ++ cond c (x ∷ []) []) h

  pub one_in : (xs : List X) (i : ℕ) (x : X) → i < length xs → x ≡ get_or xs i x → p x ≡ true → filter p (take (i + 1) xs) ≡ filter p (take i xs) ++ x ∷ []
  one_in xs i x l e h = with_item true x h xs i l e

  pub one_out : (xs : List X) (i : ℕ) (x : X) → i < length xs → x ≡ get_or xs i x → p x ≡ false → filter p (take (i + 1) xs) ≡ filter p (take i xs)
  one_out xs i x l e h = with_item false x h xs i l e ∙ append-nil (filter p (take i xs))

  passing : (xs : List X) → length (filter p xs) ≤ length xs
  passing xs = let both = length-filter_both p (λ y. not (p y)) (λ y. refl) xs in omega arith

  -- where as many pass as there are, these are all of them
  pub all_pass : (xs : List X) → length (filter p xs) ≡ length xs → filter p xs ≡ xs
  all_pass [] e = refl
  all_pass (x ∷ xs) e = at (p x) (λ h. all_pass xs h) e
    where
      at : (b : Bool) → (length (filter p xs) ≡ length xs → filter p xs ≡ xs) → length (cond b (x ∷ filter p xs) (filter p xs)) ≡ length (x ∷ xs) → cond b (x ∷ filter p xs) (filter p xs) ≡ x ∷ xs
      at true k h = ap (λ (ys : List X). x ∷ ys) (k (omega (arith, h)))
      at false k h = let l = passing xs in absurd (omega (arith, h))

  -- and none is left out
  pub none_fails : (xs : List X) → length (filter p xs) ≡ length xs → filter (λ y. not (p y)) xs ≡ []
  none_fails xs e = let both = length-filter_both p (λ y. not (p y)) (λ y. refl) xs in no_items (filter (λ y. not (p y)) xs) (omega arith)
    where
      no_items : (ys : List X) → length ys ≡ 0 → ys ≡ []
      no_items [] l = refl
      no_items (y ∷ ys) l = absurd (omega arith)

  -- of fewer no more pass
  pub filter_grows : (xs : List X) (i n : ℕ) → i ≤ n → length (filter p (take i xs)) ≤ length (filter p (take n xs))
  filter_grows xs zero n l = omega arith
  filter_grows xs (suc i) zero l = absurd (omega arith)
  filter_grows [] (suc i) (suc n) l = omega arith
  filter_grows (x ∷ xs) (suc i) (suc n) l = at (p x) (filter_grows xs i n (omega arith))
    where
      at : (b : Bool) → length (filter p (take i xs)) ≤ length (filter p (take n xs)) → length (cond b (x ∷ filter p (take i xs)) (filter p (take i xs))) ≤ length (cond b (x ∷ filter p (take n xs)) (filter p (take n xs)))
      at true h = omega arith
      at false h = h

  -- a list begins as its first part does
  pub begins_front : (xs ys : List X) → 0 < length xs → begins p xs ≡ false → begins p (xs ++ ys) ≡ false
  begins_front [] ys l h = absurd (omega arith)
  begins_front (x ∷ xs) ys l h = h

  -- the items of blocks up to a place
  module _ {Z : Type 0} (bs : List (VecDeque X Z)) (at place : ℕ) (b : VecDeque X Z) (inside : at < length bs) (is : b ≡ get_or bs at b) (within : place ≤ length b.items) where
    same : b.items ≡ (get_or bs at b).items
    same = ap (λ (v : VecDeque X Z). v.items) is

    upto : take (length (items_of (take at bs)) + place) (items_of bs) ≡ items_of (take at bs) ++ take place b.items
    upto = items_upto bs at place b inside (subst (λ (ys : List X). place ≤ length ys) same within) ∙ ap (λ (ys : List X). items_of (take at bs) ++ take place ys) (sym same)

    pub all_upto : All (λ y. p y ≡ true) (items_of (take at bs)) → All (λ y. p y ≡ true) (take place b.items) → All (λ y. p y ≡ true) (take (length (items_of (take at bs)) + place) (items_of bs))
    all_upto h k = subst (All (λ y. p y ≡ true)) (sym upto) (All-append (λ y. p y ≡ true) (items_of (take at bs)) (take place b.items) h k)

    pub count_upto : length (filter p (take (length (items_of (take at bs)) + place) (items_of bs))) ≡ length (filter p (items_of (take at bs))) + length (filter p (take place b.items))
    count_upto =
        ap (λ (ys : List X). length (filter p ys)) upto ∙ ap length (filter-append p (items_of (take at bs)) (take place b.items)) ∙ length-append (filter p (items_of (take at bs))) (filter p (take place b.items))

    pub begins_from : (d : VecDeque X Z) → 0 < length (drop place b.items) → begins p (drop place b.items) ≡ false → begins p (drop (length (items_of (take at bs)) + place) (items_of bs)) ≡ false
    begins_from d l h =
        let from = items_from bs at place b inside (subst (λ (ys : List X). place ≤ length ys) same within) ∙ ap (λ (ys : List X). drop place ys ++ items_of (drop (suc at) bs)) (sym same) in
        subst (λ (ys : List X). begins p ys ≡ false) (sym from) (begins_front (drop place b.items) (items_of (drop (suc at) bs)) l h)

    pub upto_within : length (items_of (take at bs)) + place ≤ length (items_of bs)
    upto_within = omega (arith, ap length same, ap length (items_next bs at b inside), length-append (items_of (take at bs)) (get_or bs at b).items, front_within bs (at + 1), within)

-- the last of those in front goes back in front of the others
pub last_back : {X : Type 0} (rank : X → List ℕ) (run rest : List X) (y : X) → IsInOrder rank ((run ++ y ∷ []) ++ rest) → run ++ put_in_order rank y rest ≡ (run ++ y ∷ []) ++ rest
last_back rank run rest y h =
    let e = append_assoc run (y ∷ []) rest in
    let order = pairs_drop (λ x z. is_before (rank z) (rank x) ≡ false) (length run) (run ++ y ∷ rest) (subst (IsInOrder rank) e h) in
    ap (λ r. run ++ r) (goes_back rank y rest (subst (IsInOrder rank) (drop-append_seam run (y ∷ rest)) order)) ∙ sym e

-- the item at a place, where those from there on are known
pub drop_head : {X : Type 0} (xs : List X) (i : ℕ) (x : X) (ys : List X) → i < length xs → drop i xs ≡ x ∷ ys → (x ≡ get_or xs i x) × (ys ≡ drop (i + 1) xs)
drop_head xs i x ys l e = let m = sym e ∙ drop_more xs i x l in (first_is x (get_or xs i x) ys (drop (i + 1) xs) m, rest_is x (get_or xs i x) ys (drop (i + 1) xs) m)
  where
    first_is : {Y : Type 0} (x y : Y) (xs ys : List Y) → x ∷ xs ≡ y ∷ ys → x ≡ y
    first_is x y xs ys e = cc

    rest_is : {Y : Type 0} (x y : Y) (xs ys : List Y) → x ∷ xs ≡ y ∷ ys → xs ≡ ys
    rest_is x y xs ys e = cc
