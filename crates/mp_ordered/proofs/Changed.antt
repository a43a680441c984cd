-- Blocks after an item was put in or taken out.
use Rattle.std.proofs.Common.{◌≡◌, ℕ, zero, suc, ◌+◌, ◌*◌, ◌-◌, ◌^◌, ◌<◌, ◌≤◌, false, List, [], ◌∷◌, ◌++◌, All, length, get_or, set, take, drop, refl, ap, sym, ◌∙◌, subst, ◌⊎◌, ⊎_elim, arith, length-append, length-set, append_assoc}
use Rattle.std.specs.declared.vec.Vec.{Vec}
use Rattle.std.specs.declared.collections.VecDeque.{VecDeque}
use Rattle.std.specs.List.{remove}
use Rattle.std.specs.Vec.{vec_capacity}
use Rattle.std.specs.VecDeque.{deque_capacity}
use Rattle.std.proofs.lemmas.Bool.{cases_order}
use Rattle.std.proofs.lemmas.List.{take-set, drop-set-lt, get_or-set_same}
use Rattle.std.proofs.lemmas.List.Edits.{length-remove}
use Rattle.std.proofs.lemmas.List.Elements.{All-cons, All-append, All-take, All-drop, All-set, All-push, All-get_or}
use Rattle.mp_names.specs.Names.{is_before}
use Rattle.mp_ordered.specs.Blocks.{AreBlocks, AreFilled, IsBlock, IsBlockFor, IsFilled, IsSpare, IsSplit, Row, items_of, lacking, past_halves}
use Rattle.mp_ordered.specs.InOrder.{IsInOrder, put_in_order}
use Rattle.mp_ordered.proofs.Placing.{length-put, pairs_without, put_keeps}
use Rattle.mp_ordered.proofs.Blocked.{all_filled, put_in_block, without_item}

module _ {T Z : Type 0} where
  -- How many items are past halves, and how many the first block lacks

  past_set : (bs : List (VecDeque T Z)) (at : ℕ) (b d : VecDeque T Z) → at < length bs → past_halves (set bs at b) + (length (get_or bs at d).items - 64) ≡ past_halves bs + (length b.items - 64)
  past_set [] at b d l = absurd (omega arith)
  past_set (c ∷ bs) zero b d l = omega arith
  past_set (c ∷ bs) (suc at) b d l = let rest = past_set bs at b d (omega arith) in omega (arith, rest)

  pub past_few : (bs : List (VecDeque T Z)) → past_halves bs ≤ length (items_of bs)
  past_few [] = omega arith
  past_few (b ∷ bs) = let rest = past_few bs in omega (arith, rest, length-append b.items (items_of bs))

  past_at : (bs : List (VecDeque T Z)) (at : ℕ) (d : VecDeque T Z) → at < length bs → length (get_or bs at d).items - 64 ≤ past_halves bs
  past_at [] at d l = absurd (omega arith)
  past_at (b ∷ bs) zero d l = omega arith
  past_at (b ∷ bs) (suc at) d l = let rest = past_at bs at d (omega arith) in omega (arith, rest)

  -- one item more in a block
  put_past : (bs : List (VecDeque T Z)) (at : ℕ) (b d : VecDeque T Z) → at < length bs → length b.items ≡ length (get_or bs at d).items + 1
      → past_halves (set bs at b) + lacking bs ≤ past_halves bs + 1 + lacking (set bs at b)
  put_past [] at b d l e = absurd (omega arith)
  put_past (c ∷ bs) zero b d l e = omega (arith, e)
  put_past (c ∷ bs) (suc at) b d l e = let rest = past_set bs at b d (omega arith) in omega (arith, rest, e)

  -- one item less
  less_past : (bs : List (VecDeque T Z)) (at : ℕ) (b d : VecDeque T Z) → at < length bs → length (get_or bs at d).items ≡ length b.items + 1
      → past_halves (set bs at b) + lacking bs ≤ past_halves bs + lacking (set bs at b)
  less_past [] at b d l e = absurd (omega arith)
  less_past (c ∷ bs) zero b d l e = omega (arith, e)
  less_past (c ∷ bs) (suc at) b d l e = let rest = past_set bs at b d (omega arith) in omega (arith, rest, e)

  less_past_first : (bs : List (VecDeque T Z)) (b d : VecDeque T Z) → 0 < length bs → length (get_or bs 0 d).items ≡ length b.items + 1
      → past_halves (set bs 0 b) + 1 + lacking bs ≤ past_halves bs + lacking (set bs 0 b)
  less_past_first [] b d l e = absurd (omega arith)
  less_past_first (c ∷ bs) b d l e = omega (arith, e)

  -- where there are items, the first block has one
  pub first_has : (bs : List (VecDeque T Z)) (d : VecDeque T Z) → AreFilled bs → 0 < length (items_of bs) → (0 < length bs) × (0 < length (get_or bs 0 d).items)
  first_has [] d f l = absurd (omega arith)
  first_has (b ∷ []) d f l = (omega arith, omega (arith, l, length-append b.items []))
  first_has (b ∷ c ∷ bs) d f l = (omega arith, f.0 (omega arith))

  -- where some block is half full, the first doesn't lack all
  lacks_less : (bs : List (VecDeque T Z)) (at : ℕ) (d : VecDeque T Z) → at < length bs → AreFilled bs → 64 ≤ length (get_or bs at d).items → lacking bs < 64
  lacks_less [] at d l f h = absurd (omega arith)
  lacks_less (b ∷ bs) zero d l f h = omega (arith, h)
  lacks_less (b ∷ bs) (suc at) d l f h = let some : 0 < length b.items = f.0 (omega arith) in omega (arith, some)

  none_lacks : (bs : List (VecDeque T Z)) → length bs ≡ 0 → (lacking bs ≡ 0) × (past_halves bs ≡ 0)
  none_lacks [] e = (refl, refl)
  none_lacks (b ∷ bs) e = absurd (omega arith)

  -- Blocks of which one is replaced by another

  filled_set : (bs : List (VecDeque T Z)) (at : ℕ) (b : VecDeque T Z) → at < length bs → AreFilled bs → (length b.items ≡ 0 → length bs ≤ 1) → AreFilled (set bs at b)
  filled_set [] at b l f h = tt
  filled_set (c ∷ bs) zero b l f h = (λ n. some (length b.items) (λ e. let few : suc (length bs) ≤ 1 = h e in omega arith), f.1)
    where
      some : (n : ℕ) → (n ≡ 0 → ⊥) → 0 < n
      some zero k = absurd (k refl)
      some (suc n) k = omega arith
  filled_set (c ∷ bs) (suc at) b l f h =
      (λ n. f.0 (omega arith), All-set IsFilled bs at b (some (length b.items) (λ e. let few : suc (length bs) ≤ 1 = h e in omega arith)) f.1)
    where
      some : (n : ℕ) → (n ≡ 0 → ⊥) → 0 < n
      some zero k = absurd (k refl)
      some (suc n) k = omega arith

  -- by two
  abbrev two : List (VecDeque T Z) → ℕ → VecDeque T Z → VecDeque T Z → List (VecDeque T Z)
  two bs at l u = take at bs ++ l ∷ u ∷ drop (suc at) bs

  items_two : (bs : List (VecDeque T Z)) (at : ℕ) (l u d : VecDeque T Z) → at < length bs → l.items ++ u.items ≡ (get_or bs at d).items → items_of (two bs at l u) ≡ items_of bs
  items_two [] at l u d m e = absurd (omega arith)
  items_two (b ∷ bs) zero l u d m e = sym (append_assoc l.items u.items (items_of bs)) ∙ ap (λ (r : List T). r ++ items_of bs) e
  items_two (b ∷ bs) (suc at) l u d m e = ap (λ (r : List T). b.items ++ r) (items_two bs at l u d (omega arith) e)

  length-two : (bs : List (VecDeque T Z)) (at : ℕ) (l u : VecDeque T Z) → at < length bs → length (two bs at l u) ≡ length bs + 1
  length-two [] at l u m = absurd (omega arith)
  length-two (b ∷ bs) zero l u m = omega arith
  length-two (b ∷ bs) (suc at) l u m = let rest = length-two bs at l u (omega arith) in omega (arith, rest)

  all_two : (P : VecDeque T Z → Type 0) (bs : List (VecDeque T Z)) (at : ℕ) (l u : VecDeque T Z) → All P bs → P l → P u → All P (two bs at l u)
  all_two P bs at l u h p q = All-append P (take at bs) (l ∷ u ∷ drop (suc at) bs) (All-take P at bs h) (All-cons P l (u ∷ drop (suc at) bs) p (All-cons P u (drop (suc at) bs) q (All-drop P (suc at) bs h)))

  filled_two : (bs : List (VecDeque T Z)) (at : ℕ) (l u : VecDeque T Z) → at < length bs → AreFilled bs → 0 < length l.items → 0 < length u.items → AreFilled (two bs at l u)
  filled_two [] at l u m f p q = absurd (omega arith)
  filled_two (b ∷ bs) zero l u m f p q = (λ n. p, All-cons IsFilled u bs q f.1)
  filled_two (b ∷ bs) (suc at) l u m f p q = (λ n. f.0 (omega arith), all_two IsFilled bs at l u f.1 p q)

  past_two : (bs : List (VecDeque T Z)) (at : ℕ) (l u d : VecDeque T Z) → at < length bs → length (get_or bs at d).items ≡ 128 → length l.items ≡ 64 → length u.items ≡ 64
      → (past_halves (two bs at l u) + 64 ≡ past_halves bs) × (lacking (two bs at l u) ≡ lacking bs)
  past_two [] at l u d m e p q = absurd (omega arith)
  past_two (b ∷ bs) zero l u d m e p q = (omega (arith, e, p, q), omega (arith, e, p))
  past_two (b ∷ bs) (suc at) l u d m e p q = let rest = past_two bs at l u d (omega arith) e p q in (omega (arith, rest.0), refl)

  -- without one that has no items
  abbrev without : List (VecDeque T Z) → ℕ → VecDeque T Z → List (VecDeque T Z)
  without bs at b = remove (set bs at b) at

  pub items_without : (bs : List (VecDeque T Z)) (at : ℕ) (b : VecDeque T Z) → at < length bs → b.items ≡ [] → items_of (without bs at b) ≡ items_of (set bs at b)
  items_without [] at b l e = absurd (omega arith)
  items_without (c ∷ bs) zero b l e = rw e refl
  items_without (c ∷ bs) (suc at) b l e = ap (λ (r : List T). c.items ++ r) (items_without bs at b (omega arith) e)

  all_without : (P : VecDeque T Z → Type 0) (bs : List (VecDeque T Z)) (at : ℕ) (b : VecDeque T Z) → All P bs → All P (without bs at b)
  all_without P bs at b h = rw (take-set bs at b, drop-set-lt (suc at) bs at b (omega arith)) (All-append P (take at bs) (drop (suc at) bs) (All-take P at bs h) (All-drop P (suc at) bs h))

  filled_without : (bs : List (VecDeque T Z)) (at : ℕ) (b : VecDeque T Z) → at < length bs → AreFilled bs → AreFilled (without bs at b)
  filled_without [] at b l f = absurd (omega arith)
  filled_without (c ∷ bs) zero b l f = all_filled bs f.1
  filled_without (c ∷ bs) (suc at) b l f = (λ n. f.0 (omega arith), all_without IsFilled bs at b f.1)

  past_without : (bs : List (VecDeque T Z)) (at : ℕ) (b : VecDeque T Z) → at < length bs → b.items ≡ []
      → (past_halves (without bs at b) ≡ past_halves (set bs at b)) × (lacking (set bs at b) ≤ lacking (without bs at b) + 64)
  past_without [] at b l e = absurd (omega arith)
  past_without (c ∷ bs) zero b l e = (omega (arith, ap length e), omega arith)
  past_without (c ∷ bs) (suc at) b l e = let rest = past_without bs at b (omega arith) e in (omega (arith, rest.0), omega arith)

module _ {T Z : Type 0} (rank : T → List ℕ) (blocks : Row T Z) (spare : Vec (VecDeque T Z) Z) (len past room : ℕ) (are : AreBlocks rank blocks spare len past room) where
  -- where there is room there is a block
  pub some_block : 0 < room → 0 < length blocks.items
  some_block l =
      ⊎_elim
      (λ (n : length blocks.items ≡ 0). let none = none_lacks blocks.items n in absurd (omega (arith, n, none.0, are.enough, are.memory.none n)))
      (λ (o : (length blocks.items < 0) ⊎ (0 < length blocks.items)). ⊎_elim (λ (n : length blocks.items < 0). absurd (omega arith)) (λ (n : 0 < length blocks.items). n) o)
      (cases_order (length blocks.items) 0)

  pub for_one : 0 < length spare.items → (at : ℕ) (b : VecDeque T Z) → length (set blocks.items at b) < blocks.capacity
  for_one l at b = rw length-set (omega (arith, l, are.memory.for_blocks))

  -- as many are past halves as there are items, at the most
  pub past_within : past ≤ len
  past_within = let few = past_few blocks.items in omega (arith, few, are.past_is, are.count)

  module _ (x : T) (at : ℕ) (b d : VecDeque T Z) (some : 0 < room) (here : at < length blocks.items) (place : IsBlockFor rank x blocks.items at) (is : b.items ≡ put_in_order rank x (get_or blocks.items at d).items) (memory : deque_capacity (get_or blocks.items at d) ≤ deque_capacity b) (now_past : ℕ) (now_past_is : now_past + (length b.items - 1 - 64) ≡ past + (length b.items - 64)) where
    abbrev now : List (VecDeque T Z)
    now = set blocks.items at b

    pub put_items : items_of now ≡ put_in_order rank x (items_of blocks.items)
    put_items = put_in_block rank x blocks.items at b d are.order are.filled here place is

    one_more : length b.items ≡ length (get_or blocks.items at d).items + 1
    one_more = ap length is ∙ length-put rank x (get_or blocks.items at d).items

    put_filled : AreFilled now
    put_filled = filled_set blocks.items at b here are.filled (λ e. absurd (omega (arith, e, one_more)))

    put_order : IsInOrder rank (items_of now)
    put_order = subst (IsInOrder rank) (sym put_items) (put_keeps rank x (items_of blocks.items) are.order)

    put_count : len + 1 ≡ length (items_of now)
    put_count = omega (arith, ap length put_items, length-put rank x (items_of blocks.items), are.count)

    put_past_is : now_past ≡ past_halves now
    put_past_is = let set_is = past_set blocks.items at b d here in omega (arith, set_is, one_more, now_past_is, are.past_is)

    put_enough : now_past + (room - 1) ≤ 64 * length spare.items + lacking now
    put_enough = let more = put_past blocks.items at b d here one_more in omega (arith, more, some, put_past_is, are.past_is, are.enough)

    block_memory : 128 ≤ deque_capacity b
    block_memory = let low : 128 ≤ deque_capacity (get_or blocks.items at d) = (All-get_or IsBlock blocks.items at d here are.low).1 in omega (arith, low, memory)

    -- an item was put in a block that didn't get full by it
    pub put_kept : (new : Row T Z) → new.items ≡ now → new.capacity ≡ blocks.capacity → length b.items < 128 → AreBlocks rank new spare (len + 1) now_past (room - 1)
    put_kept new e same low =
        let length_is : length new.items ≡ length blocks.items = ap length e ∙ length-set blocks.items at b in
        record {
          order = subst (λ bs. IsInOrder rank (items_of bs)) (sym e) put_order;
          low = subst (All IsBlock) (sym e) (All-set IsBlock blocks.items at b (low, block_memory) are.low);
          filled = subst AreFilled (sym e) put_filled;
          count = put_count ∙ ap (λ bs. length (items_of bs)) (sym e);
          past_is = put_past_is ∙ ap past_halves (sym e);
          enough = omega (arith, put_enough, ap lacking e);
          few = omega (arith, some, are.few);
          memory = record {
            empty = are.memory.empty;
            none = λ n. are.memory.none (omega (arith, length_is, n));
            for_blocks = omega (arith, length_is, same, are.memory.for_blocks);
            for_spare = omega (arith, length_is, are.memory.for_spare);
          };
        }

    within : at < length now
    within = rw length-set here

    now_at : (e : VecDeque T Z) → get_or now at e ≡ b
    now_at e = get_or-set_same blocks.items at b e here

    -- where it did, there is a spare block
    module _ (full : length b.items ≡ 128) where
      full_at : (e : VecDeque T Z) → length (get_or now at e).items ≡ 128
      full_at e = ap (λ v. length v.items) (now_at e) ∙ full

      pub some_spare : 0 < length spare.items
      some_spare =
          let most = past_at now at b within in
          let lacks = lacks_less now at b within put_filled (omega (arith, full_at b)) in
          omega (arith, most, lacks, full_at b, put_past_is, put_enough)

      pub half_past : 64 ≤ now_past
      half_past = let most = past_at now at b within in omega (arith, most, full_at b, put_past_is)

      -- and it was split
      module _ (new : Row T Z) (left : Vec (VecDeque T Z) Z) (split : IsSplit at now new.items) (empty : All IsSpare left.items) (one_less : length spare.items ≡ length left.items + 1) (more : blocks.capacity ≤ new.capacity) (same : vec_capacity left ≡ vec_capacity spare) where
        pub split_items : items_of new.items ≡ put_in_order rank x (items_of blocks.items)
        split_items = ap items_of split.is ∙ items_two now at split.lower split.upper split.lower within split.items ∙ put_items

        split_low : All IsBlock new.items
        split_low =
            let memory_of_lower : 128 ≤ deque_capacity split.lower = omega (arith, split.memory.0, ap (λ v. deque_capacity v) (now_at split.lower), block_memory) in
            let lower : length split.lower.items < 128 = omega (arith, split.halves.0) in
            let upper : length split.upper.items < 128 = omega (arith, split.halves.1) in
            subst (All IsBlock) (sym split.is)
            (rw (take-set blocks.items at b, drop-set-lt (suc at) blocks.items at b (omega arith)) (all_two IsBlock blocks.items at split.lower split.upper are.low (lower, memory_of_lower) (upper, split.memory.1)))

        pub split_kept : AreBlocks rank new left (len + 1) (now_past - 64) (room - 1)
        split_kept =
            let length_is : length new.items ≡ length blocks.items + 1 = ap length split.is ∙ length-two now at split.lower split.upper within ∙ ap (λ n. n + 1) (length-set blocks.items at b) in
            let halves = past_two now at split.lower split.upper b within (full_at b) split.halves.0 split.halves.1 in
            record {
              order = subst (IsInOrder rank) (sym split_items) (put_keeps rank x (items_of blocks.items) are.order);
              low = split_low;
              filled = subst AreFilled (sym split.is) (filled_two now at split.lower split.upper within put_filled (omega (arith, split.halves.0)) (omega (arith, split.halves.1)));
              count = omega (arith, ap length split_items, length-put rank x (items_of blocks.items), are.count);
              past_is = omega (arith, halves.0, ap past_halves split.is, put_past_is);
              enough = omega (arith, halves.0, halves.1, ap lacking split.is, one_less, put_past_is, put_enough);
              few = omega (arith, some, are.few);
              memory = record {
                empty = empty;
                none = λ n. absurd (omega (arith, length_is, n));
                for_blocks = omega (arith, length_is, one_less, more, are.memory.for_blocks);
                for_spare = omega (arith, length_is, one_less, same, are.memory.for_spare);
              };
            }

  -- what a block loses past its half was counted
  pub past_least : (at place : ℕ) (b d : VecDeque T Z) → at < length blocks.items → place < length (get_or blocks.items at d).items → b.items ≡ remove (get_or blocks.items at d).items place → length b.items + 1 - 64 ≤ past
  past_least at place b d l m e = let most = past_at blocks.items at d l in omega (arith, most, ap length e, length-remove (get_or blocks.items at d).items place m, are.past_is)

  -- one item was taken out of a block
  module _ (at place : ℕ) (b d : VecDeque T Z) (here : at < length blocks.items) (inside : place < length (get_or blocks.items at d).items) (is : b.items ≡ remove (get_or blocks.items at d).items place) (same : deque_capacity b ≡ deque_capacity (get_or blocks.items at d)) (now_past : ℕ) (now_past_is : now_past + (length b.items + 1 - 64) ≡ past + (length b.items - 64)) where
    abbrev less : List (VecDeque T Z)
    less = set blocks.items at b

    abbrev index : ℕ
    index = length (items_of (take at blocks.items)) + place

    pub less_items : items_of less ≡ remove (items_of blocks.items) index
    less_items = without_item blocks.items at place b d here inside is

    pub index_inside : index < length (items_of blocks.items)
    index_inside = place_inside blocks.items at here inside
      where
        place_inside : (bs : List (VecDeque T Z)) (at : ℕ) → at < length bs → place < length (get_or bs at d).items → length (items_of (take at bs)) + place < length (items_of bs)
        place_inside [] at l m = absurd (omega arith)
        place_inside (c ∷ bs) zero l m = omega (arith, m, length-append c.items (items_of bs))
        place_inside (c ∷ bs) (suc at) l m = let rest = place_inside bs at (omega arith) m in omega (arith, rest, length-append c.items (items_of bs), length-append c.items (items_of (take at bs)))

    less_count : len - 1 ≡ length (items_of less)
    less_count = omega (arith, ap length less_items, length-remove (items_of blocks.items) index index_inside, are.count)

    less_order : IsInOrder rank (items_of less)
    less_order = subst (IsInOrder rank) (sym less_items) (pairs_without (λ y z. is_before (rank z) (rank y) ≡ false) (items_of blocks.items) index index_inside are.order)

    one_less : length (get_or blocks.items at d).items ≡ length b.items + 1
    one_less = omega (arith, ap length is, length-remove (get_or blocks.items at d).items place inside)

    less_past_is : now_past ≡ past_halves less
    less_past_is = let set_is = past_set blocks.items at b d here in omega (arith, set_is, one_less, now_past_is, are.past_is)

    -- the room is kept, and one more is left by the first block
    pub room_kept : now_past + room ≤ 64 * length spare.items + lacking less
    room_kept = let balance = less_past blocks.items at b d here one_less in omega (arith, balance, less_past_is, are.past_is, are.enough)

    pub room_left : at ≡ 0 → now_past + (room + 1) ≤ 64 * length spare.items + lacking less
    room_left e =
        let first : length (get_or blocks.items 0 d).items ≡ length b.items + 1 = ap (λ i. length (get_or blocks.items i d).items) (sym e) ∙ one_less in
        let balance = less_past_first blocks.items b d (omega (arith, here)) first in
        let is_first : lacking less ≡ lacking (set blocks.items 0 b) = ap (λ i. lacking (set blocks.items i b)) e in
        let past_first : past_halves less ≡ past_halves (set blocks.items 0 b) = ap (λ i. past_halves (set blocks.items i b)) e in
        omega (arith, balance, is_first, past_first, less_past_is, are.past_is, are.enough)

    low_block : IsBlock b
    low_block = let low : IsBlock (get_or blocks.items at d) = All-get_or IsBlock blocks.items at d here are.low in (omega (arith, low.0, one_less), omega (arith, low.1, same))

    module _ (left : ℕ) (few : len - 1 + left < 2 ^ 64) (enough : now_past + left ≤ 64 * length spare.items + lacking less) where
      pub taken_kept : (new : Row T Z) → new.items ≡ less → new.capacity ≡ blocks.capacity → (length b.items ≡ 0 → length blocks.items ≤ 1) → AreBlocks rank new spare (len - 1) now_past left
      taken_kept new e kept some =
          let length_is : length new.items ≡ length blocks.items = ap length e ∙ length-set blocks.items at b in
          record {
            order = subst (λ bs. IsInOrder rank (items_of bs)) (sym e) less_order;
            low = subst (All IsBlock) (sym e) (All-set IsBlock blocks.items at b low_block are.low);
            filled = subst AreFilled (sym e) (filled_set blocks.items at b here are.filled some);
            count = less_count ∙ ap (λ bs. length (items_of bs)) (sym e);
            past_is = less_past_is ∙ ap past_halves (sym e);
            enough = omega (arith, enough, ap lacking e);
            few = few;
            memory = record {
              empty = are.memory.empty;
              none = λ n. are.memory.none (omega (arith, length_is, n));
              for_blocks = omega (arith, length_is, kept, are.memory.for_blocks);
              for_spare = omega (arith, length_is, are.memory.for_spare);
            };
          }

      -- or its last one, and there are others
      pub retired : (new : Row T Z) (more : Vec (VecDeque T Z) Z) → b.items ≡ [] → 1 < length blocks.items → new.items ≡ remove less at → more.items ≡ spare.items ++ b ∷ [] → new.capacity ≡ blocks.capacity → vec_capacity spare ≤ vec_capacity more
          → AreBlocks rank new more (len - 1) now_past left
      retired new more none others e f kept grown =
          let gone : items_of (remove less at) ≡ items_of less = items_without blocks.items at b here none in
          let past_gone = past_without blocks.items at b here none in
          let within : at < length less = rw length-set here in
          let length_is : length new.items + 1 ≡ length blocks.items = omega (arith, ap length e, length-remove less at within, length-set blocks.items at b, others) in
          let more_is : length more.items ≡ length spare.items + 1 = omega (arith, ap length f, length-append spare.items (b ∷ [])) in
          record {
            order = subst (λ bs. IsInOrder rank (items_of bs)) (sym e) (subst (IsInOrder rank) (sym gone) less_order);
            low = subst (All IsBlock) (sym e) (all_without IsBlock blocks.items at b are.low);
            filled = subst AreFilled (sym e) (filled_without blocks.items at b here are.filled);
            count = less_count ∙ ap length (sym gone) ∙ ap (λ bs. length (items_of bs)) (sym e);
            past_is = less_past_is ∙ sym past_gone.0 ∙ ap past_halves (sym e);
            enough = omega (arith, past_gone.1, enough, ap lacking e, more_is);
            few = few;
            memory = record {
              empty = subst (All IsSpare) (sym f) (All-push IsSpare spare.items b are.memory.empty (none, low_block.1));
              none = λ n. absurd (omega (arith, length_is, others, n));
              for_blocks = omega (arith, length_is, more_is, kept, are.memory.for_blocks);
              for_spare = omega (arith, length_is, more_is, grown, are.memory.for_spare);
            };
          }
