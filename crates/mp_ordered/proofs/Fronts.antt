-- The first items in blocks, and those behind them.
use Rattle.std.proofs.Common.{◌≡◌, ℕ, zero, suc, ◌+◌, ◌*◌, ◌-◌, ◌<◌, ◌≤◌, List, [], ◌∷◌, ◌++◌, length, get_or, set, take, drop, refl, ap, sym, ◌∙◌, length-append, append_assoc, append-nil, arith}
use Rattle.std.specs.declared.collections.VecDeque.{VecDeque}
use Rattle.std.proofs.lemmas.List.{drop-append-le, take-append-le}
use Rattle.mp_ordered.specs.Blocks.{items_of, lacking, past_halves}

module _ {X : Type 0} where
  -- what stands behind a first part
  drop_past : (xs ys : List X) (n : ℕ) → drop (length xs + n) (xs ++ ys) ≡ drop n ys
  drop_past [] ys n = let e : 0 + n ≡ n = omega arith in ap (λ i. drop i ys) e
  drop_past (x ∷ xs) ys n = let e : suc (length xs) + n ≡ suc (length xs + n) = omega arith in ap (λ i. drop i (x ∷ (xs ++ ys))) e ∙ drop_past xs ys n

  take_past : (xs ys : List X) (n : ℕ) → take (length xs + n) (xs ++ ys) ≡ xs ++ take n ys
  take_past [] ys n = let e : 0 + n ≡ n = omega arith in ap (λ i. take i ys) e
  take_past (x ∷ xs) ys n = let e : suc (length xs) + n ≡ suc (length xs + n) = omega arith in ap (λ i. take i (x ∷ (xs ++ ys))) e ∙ ap (λ (r : List X). x ∷ r) (take_past xs ys n)

  -- the first of those that are left, replaced
  pub set_first : (xs : List X) (at : ℕ) (x : X) → at < length xs → set (drop at xs) 0 x ≡ x ∷ drop (suc at) xs
  set_first [] at x l = absurd (omega arith)
  set_first (y ∷ xs) zero x l = refl
  set_first (y ∷ xs) (suc at) x l = set_first xs at x (omega arith)

module _ {T Z : Type 0} where
  abbrev offset : List (VecDeque T Z) → ℕ → ℕ
  offset bs at = length (items_of (take at bs))

  -- the items up to a place in a block
  pub items_upto : (bs : List (VecDeque T Z)) (at place : ℕ) (d : VecDeque T Z) → at < length bs → place ≤ length (get_or bs at d).items
      → take (length (items_of (take at bs)) + place) (items_of bs) ≡ items_of (take at bs) ++ take place (get_or bs at d).items
  items_upto [] at place d l m = absurd (omega arith)
  items_upto (b ∷ bs) zero place d l m = let z : offset (b ∷ bs) 0 + place ≡ place = omega arith in ap (λ i. take i (b.items ++ items_of bs)) z ∙ take-append-le place b.items (items_of bs) m
  items_upto (b ∷ bs) (suc at) place d l m =
      let n : offset (b ∷ bs) (suc at) + place ≡ length b.items + (offset bs at + place) = omega (arith, length-append b.items (items_of (take at bs))) in
      ap (λ i. take i (b.items ++ items_of bs)) n
      ∙ take_past b.items (items_of bs) (offset bs at + place)
      ∙ ap (λ (r : List T). b.items ++ r) (items_upto bs at place d (omega arith) m)
      ∙ sym (append_assoc b.items (items_of (take at bs)) (take place (get_or bs at d).items))

  -- and those from there on
  pub items_from : (bs : List (VecDeque T Z)) (at place : ℕ) (d : VecDeque T Z) → at < length bs → place ≤ length (get_or bs at d).items
      → drop (length (items_of (take at bs)) + place) (items_of bs) ≡ drop place (get_or bs at d).items ++ items_of (drop (suc at) bs)
  items_from [] at place d l m = absurd (omega arith)
  items_from (b ∷ bs) zero place d l m = let z : offset (b ∷ bs) 0 + place ≡ place = omega arith in ap (λ i. drop i (b.items ++ items_of bs)) z ∙ drop-append-le place b.items (items_of bs) m
  items_from (b ∷ bs) (suc at) place d l m =
      let n : offset (b ∷ bs) (suc at) + place ≡ length b.items + (offset bs at + place) = omega (arith, length-append b.items (items_of (take at bs))) in
      ap (λ i. drop i (b.items ++ items_of bs)) n ∙ drop_past b.items (items_of bs) (offset bs at + place) ∙ items_from bs at place d (omega arith) m

  -- those of one block more
  pub items_next : (bs : List (VecDeque T Z)) (at : ℕ) (d : VecDeque T Z) → at < length bs → items_of (take (at + 1) bs) ≡ items_of (take at bs) ++ (get_or bs at d).items
  items_next [] at d l = absurd (omega arith)
  items_next (b ∷ bs) zero d l = append-nil b.items
  items_next (b ∷ bs) (suc at) d l =
      let n : suc at + 1 ≡ suc (at + 1) = omega arith in
      ap (λ i. items_of (take i (b ∷ bs))) n ∙ ap (λ (r : List T). b.items ++ r) (items_next bs at d (omega arith)) ∙ sym (append_assoc b.items (items_of (take at bs)) (get_or bs at d).items)

  -- are not more than all
  pub front_within : (bs : List (VecDeque T Z)) (at : ℕ) → length (items_of (take at bs)) ≤ length (items_of bs)
  front_within bs zero = omega arith
  front_within [] (suc at) = omega arith
  front_within (b ∷ bs) (suc at) = let rest = front_within bs at in omega (arith, rest, length-append b.items (items_of (take at bs)), length-append b.items (items_of bs))

  -- How many items are past halves

  pub past-append : (bs cs : List (VecDeque T Z)) → past_halves (bs ++ cs) ≡ past_halves bs + past_halves cs
  past-append [] cs = omega arith
  past-append (b ∷ bs) cs = let rest = past-append bs cs in omega (arith, rest)

  pub past_from : (bs : List (VecDeque T Z)) (at : ℕ) (d : VecDeque T Z) → at < length bs → past_halves (drop at bs) ≡ (length (get_or bs at d).items - 64) + past_halves (drop (suc at) bs)
  past_from [] at d l = absurd (omega arith)
  past_from (b ∷ bs) zero d l = refl
  past_from (b ∷ bs) (suc at) d l = past_from bs at d (omega arith)

  room_of_rest : (bs : List (VecDeque T Z)) (at : ℕ) → offset bs at + past_halves (drop at bs) ≤ 64 * at + past_halves bs
  room_of_rest bs zero = omega arith
  room_of_rest [] (suc at) = omega arith
  room_of_rest (b ∷ bs) (suc at) = let rest = room_of_rest bs at in omega (arith, rest, length-append b.items (items_of (take at bs)))

  -- blocks that are retired give room for their items, and so does the first of the others for those that it lacks
  pub room_of_front : (bs : List (VecDeque T Z)) (at place : ℕ) (d : VecDeque T Z) → at < length bs → place ≤ length (get_or bs at d).items
      → (length (get_or bs at d).items - place - 64) + past_halves (drop (suc at) bs) + (offset bs at + place) + lacking bs ≤ past_halves bs + 64 * at + (64 - (length (get_or bs at d).items - place))
  room_of_front [] at place d l m = absurd (omega arith)
  room_of_front (b ∷ bs) zero place d l m = omega (arith, m)
  room_of_front (b ∷ bs) (suc at) place d l m =
      let rest = room_of_rest bs at in
      let from = past_from bs at d (omega arith) in
      omega (arith, rest, from, m, length-append b.items (items_of (take at bs)))
