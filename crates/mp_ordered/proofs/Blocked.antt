-- Items in blocks.
use Rattle.std.proofs.Common.{◌≡◌, ℕ, zero, suc, ◌+◌, ◌-◌, ◌<◌, ◌≤◌, Bool, true, false, Some, List, [], ◌∷◌, ◌++◌, All, length, get_or, set, take, drop, refl, ap, sym, ◌∙◌, ⊎_elim, cond, length-append, arith}
use Rattle.std.specs.declared.collections.VecDeque.{VecDeque}
use Rattle.std.specs.Prelude.{slice_get}
use Rattle.std.specs.List.{insert, prefix_len, remove}
use Rattle.std.specs.List.Sorted.{IsPartitionedBy}
use Rattle.std.proofs.lemmas.Bool.{cases_Bool}
use Rattle.std.proofs.lemmas.List.{get_or-append-add, get_or_append_left, get_or_at, take_all}
use Rattle.std.proofs.lemmas.List.Edits.{remove-append_left, remove-append_right}
use Rattle.std.proofs.lemmas.List.Elements.{All-nil, All-cons, All-head, All-tail, All-weaker, All-get_or}
use Rattle.mp_names.specs.Names.{is_before}
use Rattle.mp_ordered.specs.Blocks.{AreFilled, IsBlockFor, IsCutIn, IsFilled, begins_before, items_of}
use Rattle.mp_ordered.specs.InOrder.{IsInOrder, begins, first_from, put_in_order}
use Rattle.mp_ordered.proofs.Placing.{pairs_head, pairs_tail}
use Rattle.mp_ordered.proofs.Placed.{all_front, all_back, pairs_front, pairs_back, put_behind, put_within, still_before}

module _ {T : Type 0} (rank : T → List ℕ) where
  abbrev NotAfter : T → T → Type 0
  NotAfter y z = is_before (rank z) (rank y) ≡ false

  -- each item of the first part stands in front of each of the second
  pub in_front : (xs ys : List T) → IsInOrder rank (xs ++ ys) → All (λ x. All (NotAfter x) ys) xs
  in_front [] ys h = All-nil (λ x. All (NotAfter x) ys)
  in_front (x ∷ xs) ys h = All-cons (λ x. All (NotAfter x) ys) x xs (all_back (NotAfter x) xs ys (pairs_head NotAfter x (xs ++ ys) h)) (in_front xs ys (pairs_tail NotAfter x (xs ++ ys) h))

  module _ (x : T) where
    -- where a later block begins before the item, all of an earlier one come before it
    pub all_before : (ys zs : List T) → All (λ y. All (NotAfter y) zs) ys → begins_before rank x zs ≡ true → All (λ y. is_before (rank y) (rank x) ≡ true) ys
    all_before ys [] h e = absurd (cc)
    all_before ys (z ∷ zs) h e = All-weaker (λ y. All (NotAfter y) (z ∷ zs)) (λ y. is_before (rank y) (rank x) ≡ true) (λ y k. still_before rank x y z (All-head (NotAfter y) z zs k) e) ys h

-- blocks that all have items
pub all_filled : {T Z : Type 0} (bs : List (VecDeque T Z)) → All IsFilled bs → AreFilled bs
all_filled [] f = tt
all_filled (b ∷ bs) f = (λ l. All-head IsFilled b bs f, All-tail IsFilled b bs f)

-- What a cut finds

module _ {T : Type 0} (p : T → Bool) where
  abbrev Passes : T → Type 0
  Passes y = p y ≡ true

  pub parted_front : (xs ys : List T) → IsPartitionedBy p (xs ++ ys) → IsPartitionedBy p xs
  parted_front xs ys h i j d l m e =
      let n = length-append xs ys in
      sym (ap p (get_or_append_left xs ys d i (omega arith))) ∙ h i j d l (omega arith) (ap p (get_or_append_left xs ys d j m) ∙ e)

  pub parted_back : (xs ys : List T) → IsPartitionedBy p (xs ++ ys) → IsPartitionedBy p ys
  parted_back xs ys h i j d l m e =
      let n = length-append xs ys in
      sym (ap p (get_or-append-add xs ys i d)) ∙ h (length xs + i) (length xs + j) d (omega arith) (omega arith) (ap p (get_or-append-add xs ys j d) ∙ e)

  -- where the second part begins in front, all of the first are
  pub all_pass : (xs ys : List T) → IsPartitionedBy p (xs ++ ys) → begins p ys ≡ true → All Passes xs
  all_pass xs [] h e = absurd (cc)
  all_pass xs (y ∷ ys) h e =
      λ k d l.
      let n = length-append xs (y ∷ ys) in
      sym (ap p (get_or_append_left xs (y ∷ ys) d k l)) ∙ h k (length xs) d (omega arith) (omega arith) (ap p (get_or_at xs y ys d (length xs) refl) ∙ e)

  begins_front : (xs ys : List T) → begins p xs ≡ true → begins p (xs ++ ys) ≡ true
  begins_front [] ys e = absurd (cc)
  begins_front (x ∷ xs) ys e = e

  begins_if_all : (xs : List T) → 0 < length xs → All Passes xs → begins p xs ≡ true
  begins_if_all [] l h = absurd (omega arith)
  begins_if_all (x ∷ xs) l h = All-head Passes x xs h

  -- where some are in front, the first is
  pub begins_if_some : (xs : List T) → 0 < prefix_len p xs → begins p xs ≡ true
  begins_if_some [] l = absurd (omega arith)
  begins_if_some (x ∷ xs) l = ⊎_elim (λ (e : p x ≡ true). e) (λ (e : p x ≡ false). let none : 0 < 0 = rw e at l in absurd (omega arith)) (cases_Bool (p x))

  -- how many are in front, by parts
  pub count_behind : (xs ys : List T) → All Passes xs → prefix_len p (xs ++ ys) ≡ length xs + prefix_len p ys
  count_behind [] ys h = omega arith
  count_behind (x ∷ xs) ys h = let e : p x ≡ true = All-head Passes x xs h in let rest = count_behind xs ys (All-tail Passes x xs h) in rw e (omega (arith, rest))

  pub count_within : (xs ys : List T) → begins p ys ≡ false → prefix_len p (xs ++ ys) ≡ prefix_len p xs
  count_within [] [] e = refl
  count_within [] (y ∷ ys) e = rw e refl
  count_within (x ∷ xs) ys e = ap (λ n. cond (p x) (1 + n) 0) (count_within xs ys e)

  module _ {Z : Type 0} where
    abbrev starts : VecDeque T Z → Bool
    starts b = begins p b.items

    begun : (bs : List (VecDeque T Z)) (at : ℕ) (d : VecDeque T Z) → IsPartitionedBy p (items_of bs) → All IsFilled bs → at < length bs → starts (get_or bs at d) ≡ true → begins p (items_of bs) ≡ true
    begun [] at d h f l e = absurd (omega arith)
    begun (b ∷ bs) zero d h f l e = begins_front b.items (items_of bs) e
    begun (b ∷ bs) (suc at) d h f l e =
        let rest = begun bs at d (parted_back b.items (items_of bs) h) (All-tail IsFilled b bs f) (omega arith) e in
        begins_front b.items (items_of bs) (begins_if_all b.items (All-head IsFilled b bs f) (all_pass b.items (items_of bs) h rest))

    -- the items behind the block of a cut don't begin in front of it
    pub behind_block : (bs : List (VecDeque T Z)) → All IsFilled bs → ((d : VecDeque T Z) → 0 < length bs → starts (get_or bs 0 d) ≡ false) → begins p (items_of bs) ≡ false
    behind_block [] f h = refl
    behind_block (b ∷ bs) f h = first b.items (items_of bs) (All-head IsFilled b bs f) (h b (omega arith))
      where
        first : (ys zs : List T) → 0 < length ys → begins p ys ≡ false → begins p (ys ++ zs) ≡ false
        first [] zs l e = absurd (omega arith)
        first (y ∷ ys) zs l e = e

    -- how many items are in front of a cut: those of the blocks before its block, and those in its block
    pub in_front_of : (bs : List (VecDeque T Z)) (at : ℕ) (d : VecDeque T Z) → IsPartitionedBy p (items_of bs) → AreFilled bs → at < length bs → IsCutIn p bs at
        → prefix_len p (items_of bs) ≡ length (items_of (take at bs)) + prefix_len p (get_or bs at d).items
    in_front_of [] at d h f l c = absurd (omega arith)
    in_front_of (b ∷ bs) zero d h f l c = omega (arith, count_within b.items (items_of bs) (behind_block bs f.1 (λ d m. (c d).1 (omega arith))))
    in_front_of (b ∷ bs) (suc at) d h f l c =
        let here : at < length bs = omega arith in
        let later = parted_back b.items (items_of bs) h in
        let passes = begun bs at d later f.1 here ((c d).0 (omega arith)) in
        let rest = in_front_of bs at d later (all_filled bs f.1) here (λ d. (λ m. (c d).0 (omega arith), λ m. (c d).1 (omega arith))) in
        omega (arith, rest, count_behind b.items (items_of bs) (all_pass b.items (items_of bs) h passes), length-append b.items (items_of (take at bs)))

    -- the items of its block are parted too
    pub parted_block : (bs : List (VecDeque T Z)) (at : ℕ) (d : VecDeque T Z) → IsPartitionedBy p (items_of bs) → at < length bs → IsPartitionedBy p (get_or bs at d).items
    parted_block [] at d h l = absurd (omega arith)
    parted_block (b ∷ bs) zero d h l = parted_front b.items (items_of bs) h
    parted_block (b ∷ bs) (suc at) d h l = parted_block bs at d (parted_back b.items (items_of bs) h) (omega arith)

    -- a block that isn't the first has an item in front of a cut in it
    some_in_block : (bs : List (VecDeque T Z)) (at : ℕ) (d : VecDeque T Z) → IsCutIn p bs at → 0 < at → 0 < prefix_len p (get_or bs at d).items
    some_in_block bs at d c l = begun_count (get_or bs at d).items ((c d).0 l)
      where
        begun_count : (ys : List T) → begins p ys ≡ true → 0 < prefix_len p ys
        begun_count [] e = absurd (cc)
        begun_count (y ∷ ys) e = rw e (omega arith)

    -- where some item is in front of a cut, one of the cut's block is
    pub some_there : (bs : List (VecDeque T Z)) (at : ℕ) (d : VecDeque T Z) → IsPartitionedBy p (items_of bs) → AreFilled bs → at < length bs → IsCutIn p bs at
        → 0 < prefix_len p (items_of bs) → 0 < prefix_len p (get_or bs at d).items
    some_there bs zero d h f l c some = let all = in_front_of bs 0 d h f l c in omega (arith, some, all)
    some_there bs (suc at) d h f l c some = some_in_block bs (suc at) d c (omega arith)

-- An item of a block, among all

module _ {T : Type 0} where
  slice_front : (xs ys : List T) (i : ℕ) → i < length xs → slice_get (xs ++ ys) i ≡ slice_get xs i
  slice_front [] ys i l = absurd (omega arith)
  slice_front (x ∷ xs) ys zero l = refl
  slice_front (x ∷ xs) ys (suc i) l = slice_front xs ys i (omega arith)

  slice_back : (xs ys : List T) (n i : ℕ) → n ≡ length xs + i → slice_get (xs ++ ys) n ≡ slice_get ys i
  slice_back [] ys n i e = let f : n ≡ i = omega arith in rw f refl
  slice_back (x ∷ xs) ys zero i e = absurd (omega arith)
  slice_back (x ∷ xs) ys (suc n) i e = slice_back xs ys n i (omega arith)

module _ {T Z : Type 0} where
  abbrev offset : List (VecDeque T Z) → ℕ → ℕ
  offset bs at = length (items_of (take at bs))

  pub item_of_block : (bs : List (VecDeque T Z)) (at place : ℕ) (d : VecDeque T Z) → at < length bs → place < length (get_or bs at d).items
      → slice_get (items_of bs) (length (items_of (take at bs)) + place) ≡ slice_get (get_or bs at d).items place
  item_of_block [] at place d l m = absurd (omega arith)
  item_of_block (b ∷ bs) zero place d l m = let z : offset (b ∷ bs) 0 + place ≡ place = omega arith in ap (λ i. slice_get (b.items ++ items_of bs) i) z ∙ slice_front b.items (items_of bs) place m
  item_of_block (b ∷ bs) (suc at) place d l m =
      slice_back b.items (items_of bs) (length (items_of (take (suc at) (b ∷ bs))) + place) (length (items_of (take at bs)) + place) (omega (arith, length-append b.items (items_of (take at bs))))
      ∙ item_of_block bs at place d (omega arith) m

  offset_next : (bs : List (VecDeque T Z)) (at : ℕ) (d : VecDeque T Z) → at < length bs → offset bs (suc at) ≡ offset bs at + length (get_or bs at d).items
  offset_next [] at d l = absurd (omega arith)
  offset_next (b ∷ bs) zero d l = omega (arith, length-append b.items [])
  offset_next (b ∷ bs) (suc at) d l = let rest = offset_next bs at d (omega arith) in omega (arith, rest, length-append b.items (items_of (take at bs)), length-append b.items (items_of (take (suc at) bs)))

  pub later_filled : (bs : List (VecDeque T Z)) (at : ℕ) (d : VecDeque T Z) → AreFilled bs → suc at < length bs → 0 < length (get_or bs (suc at) d).items
  later_filled [] at d f l = absurd (omega arith)
  later_filled (b ∷ bs) at d f l = All-get_or IsFilled bs at d (omega arith) f.1

  -- behind a block's last item there is the first of the next block
  pub item_of_next : (bs : List (VecDeque T Z)) (at place : ℕ) (d : VecDeque T Z) → AreFilled bs → suc at < length bs → place ≡ length (get_or bs at d).items
      → slice_get (items_of bs) (offset bs at + place) ≡ slice_get (get_or bs (suc at) d).items 0
  item_of_next bs at place d f l e =
      let n : offset bs at + place ≡ offset bs (suc at) + 0 = omega (arith, offset_next bs at d (omega arith), e) in
      ap (λ i. slice_get (items_of bs) i) n ∙ item_of_block bs (suc at) 0 d l (later_filled bs at d f l)

  -- or none
  pub no_more : (bs : List (VecDeque T Z)) (at place : ℕ) (d : VecDeque T Z) → at < length bs → length bs ≤ suc at → place ≡ length (get_or bs at d).items → length (items_of bs) ≡ offset bs at + place
  no_more bs at place d l m e = ap (λ r. length (items_of r)) (sym (take_all (suc at) bs m)) ∙ offset_next bs at d l ∙ ap (λ n. offset bs at + n) (sym e)

  pub without_item : (bs : List (VecDeque T Z)) (at place : ℕ) (b d : VecDeque T Z) → at < length bs → place < length (get_or bs at d).items → b.items ≡ remove (get_or bs at d).items place
      → items_of (set bs at b) ≡ remove (items_of bs) (length (items_of (take at bs)) + place)
  without_item [] at place b d l m e = absurd (omega arith)
  without_item (c ∷ bs) zero place b d l m e =
      let z : offset (c ∷ bs) 0 + place ≡ place = omega arith in
      ap (λ (r : List T). r ++ items_of bs) e ∙ sym (remove-append_left c.items (items_of bs) place m) ∙ ap (λ i. remove (c.items ++ items_of bs) i) (sym z)
  without_item (c ∷ bs) (suc at) place b d l m e =
      let n = length (items_of (take (suc at) (c ∷ bs))) + place in
      let k = length (items_of (take at bs)) + place in
      let is : n ≡ length c.items + k = omega (arith, length-append c.items (items_of (take at bs))) in
      let less : n - length c.items ≡ k = omega (arith, is) in
      ap (λ (r : List T). c.items ++ r) (without_item bs at place b d (omega arith) m e ∙ ap (λ i. remove (items_of bs) i) (sym less))
      ∙ sym (remove-append_right c.items (items_of bs) (length c.items) n refl (omega (arith, is)))

module _ {T Z : Type 0} (rank : T → List ℕ) where
  -- the items of a block are in order
  pub order_of_block : (bs : List (VecDeque T Z)) (at : ℕ) (d : VecDeque T Z) → IsInOrder rank (items_of bs) → at < length bs → IsInOrder rank (get_or bs at d).items
  order_of_block [] at d h l = absurd (omega arith)
  order_of_block (b ∷ bs) zero d h l = pairs_front (NotAfter rank) b.items (items_of bs) h
  order_of_block (b ∷ bs) (suc at) d h l = order_of_block bs at d (pairs_back (NotAfter rank) b.items (items_of bs) h) (omega arith)

  -- what holds of all items holds of those of each block
  pub of_each : (P : T → Type 0) (bs : List (VecDeque T Z)) → All P (items_of bs) → All (λ b. All P b.items) bs
  of_each P [] h = All-nil (λ b. All P b.items)
  of_each P (b ∷ bs) h = All-cons (λ b. All P b.items) b bs (all_front P b.items (items_of bs) h) (of_each P bs (all_back P b.items (items_of bs) h))

  module _ (x : T) where
    abbrev starts_before : VecDeque T Z → Bool
    starts_before b = begins_before rank x b.items

    -- a block with the item put among its items, in place of that block
    pub put_in_block : (bs : List (VecDeque T Z)) (at : ℕ) (new d : VecDeque T Z) → IsInOrder rank (items_of bs) → AreFilled bs → at < length bs → IsBlockFor rank x bs at
        → new.items ≡ put_in_order rank x (get_or bs at d).items → items_of (set bs at new) ≡ put_in_order rank x (items_of bs)
    put_in_block [] at new d h f l p e = absurd (omega arith)
    put_in_block (b ∷ bs) zero new d h f l p e =
        ap (λ (r : List T). r ++ items_of bs) e
        ∙ sym (put_within rank x b.items (items_of bs) (behind_block (λ (y : T). is_before (rank y) (rank x)) bs f.1 (λ d m. (p d).1 (omega arith))))
    put_in_block (b ∷ bs) (suc at) new d h f l p e =
        let here : at < length bs = omega arith in
        let block = get_or bs at d in
        let starts_here : starts_before block ≡ true = (p d).0 (omega arith) in
        let front = in_front rank b.items (items_of bs) h in
        let each = All-weaker (λ y. All (NotAfter rank y) (items_of bs)) (λ y. All (NotAfter rank y) block.items) (λ y k. All-get_or (λ c. All (NotAfter rank y) c.items) bs at d here (of_each (NotAfter rank y) bs k)) b.items front in
        let before = all_before rank x b.items block.items each starts_here in
        ap (λ (r : List T). b.items ++ r) (put_in_block bs at new d (pairs_back (NotAfter rank) b.items (items_of bs) h) (all_filled bs f.1) here (λ d. (λ m. (p d).0 (omega arith), λ m. (p d).1 (omega arith))) e)
        ∙ sym (put_behind rank x b.items (items_of bs) before)

-- the first item that doesn't come before another stands where those that come before it end
pub first_at : {T : Type 0} (rank : T → List ℕ) (x : T) (ys : List T) → slice_get ys (prefix_len (λ y. is_before (rank y) (rank x)) ys) ≡ first_from rank x ys
first_at rank x [] = refl
first_at rank x (y ∷ ys) =
    ⊎_elim
    (λ (e : is_before (rank y) (rank x) ≡ true). rw e (next (prefix_len (λ z. is_before (rank z) (rank x)) ys) ∙ first_at rank x ys))
    (λ (e : is_before (rank y) (rank x) ≡ false). rw e refl)
    (cases_Bool (is_before (rank y) (rank x)))
  where
    next : (n : ℕ) → slice_get (y ∷ ys) (1 + n) ≡ slice_get ys n
    next n = let e : 1 + n ≡ suc n = omega arith in ap (λ i. slice_get (y ∷ ys) i) e

-- a list with an element replaced by two
pub put_two : {X : Type 0} (xs : List X) (at : ℕ) (x y : X) → at < length xs → insert (set xs at x) (suc at) y ≡ take at xs ++ x ∷ y ∷ drop (suc at) xs
put_two [] at x y l = absurd (omega arith)
put_two (z ∷ xs) zero x y l = refl
put_two (z ∷ xs) (suc at) x y l = ap (λ (r : List _). z ∷ r) (put_two xs at x y (omega arith))

-- what stands in the first part, and behind it
in_front_part : {T : Type 0} (xs ys : List T) (i : ℕ) (y : T) → i < length xs → y ≡ get_or xs i y → slice_get (xs ++ ys) i ≡ Some y
in_front_part [] ys i y l e = absurd (omega arith)
in_front_part (x ∷ xs) ys zero y l e = ap (λ (w : _). Some w) (sym e)
in_front_part (x ∷ xs) ys (suc i) y l e = in_front_part xs ys i y (omega arith) e

pub in_first : {T Z : Type 0} (b : VecDeque T Z) (bs : List (VecDeque T Z)) (i : ℕ) (y : T) → i < length b.items → y ≡ get_or b.items i y → slice_get (items_of (b ∷ bs)) i ≡ Some y
in_first b bs i y l e = in_front_part b.items (items_of bs) i y l e

pub past_first : {T : Type 0} (xs ys : List T) (i : ℕ) → length xs ≤ i → slice_get (xs ++ ys) i ≡ slice_get ys (i - length xs)
past_first [] ys i l = let e : i - 0 ≡ i = omega arith in rw e refl
past_first (x ∷ xs) ys zero l = absurd (omega arith)
past_first (x ∷ xs) ys (suc i) l = let e : suc i - suc (length xs) ≡ i - length xs = omega arith in rw e (past_first xs ys i (omega arith))
