-- What is known of blocks in which an item was put or from which one was taken, by what the calls say of the block.
use Rattle.std.proofs.Common.{◌≡◌, ◌≢◌, ℕ, Bool, ◌+◌, ◌*◌, ◌-◌, ◌^◌, ◌<◌, ◌≤◌, List, [], ◌∷◌, ◌++◌, Some, All, length, get_or, set, take, ap, sym, ◌∙◌, subst, arith}
use Rattle.std.specs.declared.vec.Vec.{Vec}
use Rattle.std.specs.declared.collections.VecDeque.{VecDeque}
use Rattle.std.specs.Prelude.{slice_get}
use Rattle.std.specs.List.{insert, prefix_len, remove}
use Rattle.std.specs.List.Sorted.{IsPartitionedBy}
use Rattle.std.specs.Vec.{vec_capacity}
use Rattle.std.specs.VecDeque.{deque_capacity}
use Rattle.std.proofs.lemmas.List.{get_or-set_same, nil_from_length}
use Rattle.std.proofs.lemmas.List.Elements.{All-get_or}
use Rattle.std.proofs.lemmas.List.Sums.{prefix_len-le-length}
use Rattle.mp_ordered.specs.Blocks.{AreBlocks, IsBlock, IsBlockFor, IsCutIn, IsSpare, IsSplit, Row, items_of, lacking}
use Rattle.mp_ordered.specs.InOrder.{InOrder, put_in_order}
use Rattle.mp_ordered.proofs.Placing.{length-put}
use Rattle.mp_ordered.proofs.Blocked.{in_front_of, item_of_block, parted_block, some_there}
use Rattle.mp_ordered.proofs.Changed.{half_past, items_without, less_items, past_least, put_items, put_kept, retired, room_kept, room_left, some_spare, split_items, split_kept, taken_kept}

module _ {T Z : Type 0} (rank : T → List ℕ) {blocks : Row T Z} {spare : Vec (VecDeque T Z) Z} {len past room : ℕ} (are : AreBlocks rank blocks spare len past room) where
  -- An item was put in a block, which has `n` items by that
  module _ (x : T) {at : ℕ} (index : ℕ) (b : VecDeque T Z) {d : VecDeque T Z} (some : 0 < room) (here : at < length blocks.items) (place : IsBlockFor rank x blocks.items at) (was : d ≡ get_or blocks.items at d)
      (put : insert (get_or blocks.items at d).items index x ≡ put_in_order rank x (get_or blocks.items at d).items) (is : b.items ≡ insert d.items index x) (memory : deque_capacity d ≤ deque_capacity b)
      {n before after : ℕ} (count : n ≡ length b.items) (after_is : after ≡ n - 64) (before_is : before ≡ n - 1 - 64) where
    is_there : b.items ≡ put_in_order rank x (get_or blocks.items at d).items
    is_there = is ∙ ap (λ v. insert v.items index x) was ∙ put

    memory_there : deque_capacity (get_or blocks.items at d) ≤ deque_capacity b
    memory_there = omega (arith, memory, ap (λ v. deque_capacity v) was)

    past_there : past + (after - before) + (length b.items - 1 - 64) ≡ past + (length b.items - 64)
    past_there = omega (arith, count, after_is, before_is)

    pub now_put : items_of (set blocks.items at b) ≡ put_in_order rank x (items_of blocks.items)
    now_put = put_items rank blocks spare len past room are x at b d some here place is_there memory_there (past + (after - before)) past_there

    pub kept_put : n ≢ 128 → (new : Row T Z) → new.items ≡ set blocks.items at b → new.capacity ≡ blocks.capacity → AreBlocks rank new spare (len + 1) (past + (after - before)) (room - 1)
    kept_put ne new e same =
        let low : length (get_or blocks.items at d).items < 128 = (All-get_or IsBlock blocks.items at d here are.low).0 in
        let more : length b.items ≡ length (get_or blocks.items at d).items + 1 = ap length is_there ∙ length-put rank x (get_or blocks.items at d).items in
        put_kept rank blocks spare len past room are x at b d some here place is_there memory_there (past + (after - before)) past_there new e same (omega (arith, low, more, count, ne))

    -- and is full
    module _ (full : n ≡ 128) where
      is_full : length b.items ≡ 128
      is_full = sym count ∙ full

      pub spare_there : 0 < length spare.items
      spare_there = some_spare rank blocks spare len past room are x at b d some here place is_there memory_there (past + (after - before)) past_there is_full

      pub half_there : 64 ≤ past + (after - before)
      half_there = half_past rank blocks spare len past room are x at b d some here place is_there memory_there (past + (after - before)) past_there is_full

      -- so it was split
      module _ (new : Row T Z) (left : Vec (VecDeque T Z) Z) (split : IsSplit at (set blocks.items at b) new.items) (empty : All IsSpare left.items) (one_less : length spare.items ≡ length left.items + 1) (more : blocks.capacity ≤ new.capacity) (same : vec_capacity left ≡ vec_capacity spare) where
        pub now_split : items_of new.items ≡ put_in_order rank x (items_of blocks.items)
        now_split = split_items rank blocks spare len past room are x at b d some here place is_there memory_there (past + (after - before)) past_there is_full new left split empty one_less more same

        pub kept_split : AreBlocks rank new left (len + 1) (past + (after - before) - 64) (room - 1)
        kept_split = split_kept rank blocks spare len past room are x at b d some here place is_there memory_there (past + (after - before)) past_there is_full new left split empty one_less more same

  -- An item was taken out of a block, which has `n` items left
  module _ {at place : ℕ} (b : VecDeque T Z) {d : VecDeque T Z} (here : at < length blocks.items) (inside : place < length d.items) (was : d ≡ get_or blocks.items at d) (is : b.items ≡ remove d.items place)
      {n before after : ℕ} (count : n ≡ length b.items) (before_is : before ≡ n + 1 - 64) (after_is : after ≡ n - 64) where
    in_there : place < length (get_or blocks.items at d).items
    in_there = omega (arith, inside, ap (λ v. length v.items) was)

    left_there : b.items ≡ remove (get_or blocks.items at d).items place
    left_there = is ∙ ap (λ v. remove v.items place) was

    pub lost : before - after ≤ past
    lost = let least = past_least rank blocks spare len past room are at place b d here in_there left_there in omega (arith, least, count, before_is, after_is)

    past_left : past - (before - after) + (length b.items + 1 - 64) ≡ past + (length b.items - 64)
    past_left = omega (arith, lost, count, before_is, after_is)

    module _ (same : deque_capacity b ≡ deque_capacity d) where
      same_there : deque_capacity b ≡ deque_capacity (get_or blocks.items at d)
      same_there = same ∙ ap (λ v. deque_capacity v) was

      pub now_less : items_of (set blocks.items at b) ≡ remove (items_of blocks.items) (length (items_of (take at blocks.items)) + place)
      now_less = less_items rank blocks spare len past room are at place b d here in_there left_there same_there (past - (before - after)) past_left

      -- its room is kept, and that of the first block is left
      pub room_there : past - (before - after) + room ≤ 64 * length spare.items + lacking (set blocks.items at b)
      room_there = room_kept rank blocks spare len past room are at place b d here in_there left_there same_there (past - (before - after)) past_left

      pub more_room : at ≡ 0 → past - (before - after) + (room + 1) ≤ 64 * length spare.items + lacking (set blocks.items at b)
      more_room = room_left rank blocks spare len past room are at place b d here in_there left_there same_there (past - (before - after)) past_left

      module _ {left : ℕ} (few : len - 1 + left < 2 ^ 64) (enough : past - (before - after) + left ≤ 64 * length spare.items + lacking (set blocks.items at b)) where
        pub kept_less : (n ≡ 0 → length blocks.items ≤ 1) → (new : Row T Z) → new.items ≡ set blocks.items at b → new.capacity ≡ blocks.capacity → AreBlocks rank new spare (len - 1) (past - (before - after)) left
        kept_less alone new e kept =
            taken_kept rank blocks spare len past room are at place b d here in_there left_there same_there (past - (before - after)) past_left left few enough new e kept (λ z. alone (count ∙ z))

        -- or the block is a spare one
        pub kept_retired : n ≡ 0 → 1 < length blocks.items → (new : Row T Z) (more : Vec (VecDeque T Z) Z) → new.items ≡ remove (set blocks.items at b) at
            → more.items ≡ spare.items ++ get_or (set blocks.items at b) at b ∷ [] → new.capacity ≡ blocks.capacity → vec_capacity spare ≤ vec_capacity more → AreBlocks rank new more (len - 1) (past - (before - after)) left
        kept_retired none others new more e f kept grown =
            retired rank blocks spare len past room are at place b d here in_there left_there same_there (past - (before - after)) past_left left few enough new more
            (nil_from_length b.items (sym count ∙ none)) others e (f ∙ ap (λ v. spare.items ++ v ∷ []) (get_or-set_same blocks.items at b b here)) kept grown

      pub items_retired : n ≡ 0 → {bs : List (VecDeque T Z)} → bs ≡ remove (set blocks.items at b) at → items_of bs ≡ remove (items_of blocks.items) (length (items_of (take at blocks.items)) + place)
      items_retired none e = ap items_of e ∙ items_without blocks.items at b here (nil_from_length b.items (sym count ∙ none)) ∙ now_less

  -- The block of a cut
  module _ (p : T → Bool) {m : InOrder T} (view : record { items = items_of blocks.items; room = room } ≡ m) (parted : IsPartitionedBy p m.items) {bs : List (VecDeque T Z)} (deref : bs ≡ blocks.items)
      {at : ℕ} (inside : at < length bs) {d : VecDeque T Z} (was : d ≡ get_or blocks.items at d) where
    pub parted_items : IsPartitionedBy p (items_of blocks.items)
    parted_items = subst (λ (o : InOrder T). IsPartitionedBy p o.items) (sym view) parted

    pub cut_here : at < length blocks.items
    cut_here = subst (λ (r : List (VecDeque T Z)). at < length r) deref inside

    pub block_parted : IsPartitionedBy p d.items
    block_parted = subst (λ v. IsPartitionedBy p v.items) (sym was) (parted_block p blocks.items at d parted_items cut_here)

    -- and how many items are in front of it
    module _ (cut : IsCutIn p bs at) {n : ℕ} (count : n ≡ prefix_len p d.items) where
      cut_there : IsCutIn p blocks.items at
      cut_there = subst (λ (r : List (VecDeque T Z)). IsCutIn p r at) deref cut

      pub in_front : prefix_len p (items_of blocks.items) ≡ length (items_of (take at blocks.items)) + n
      in_front = in_front_of p blocks.items at d parted_items are.filled cut_here cut_there ∙ ap (λ k. length (items_of (take at blocks.items)) + k) (sym (count ∙ ap (λ v. prefix_len p v.items) was))

      -- where there are some, the last one is in this block
      module _ (some : 0 < prefix_len p m.items) where
        pub last_inside : n - 1 < length d.items
        last_inside =
            let some_items : 0 < prefix_len p (items_of blocks.items) = subst (λ (o : InOrder T). 0 < prefix_len p o.items) (sym view) some in
            let in_block = some_there p blocks.items at d parted_items are.filled cut_here cut_there some_items in
            omega (arith, in_block, count, ap (λ v. prefix_len p v.items) was, prefix_len-le-length p d.items)

        last_index : length (items_of (take at blocks.items)) + (n - 1) ≡ prefix_len p (items_of blocks.items) - 1
        last_index =
            let some_items : 0 < prefix_len p (items_of blocks.items) = subst (λ (o : InOrder T). 0 < prefix_len p o.items) (sym view) some in
            let in_block = some_there p blocks.items at d parted_items are.filled cut_here cut_there some_items in
            omega (arith, in_front, in_block, count, ap (λ v. prefix_len p v.items) was)

        pub last_item : {y : T} → slice_get d.items (n - 1) ≡ Some y → slice_get m.items (prefix_len p m.items - 1) ≡ Some y
        last_item {y} e =
            let there : n - 1 < length (get_or blocks.items at d).items = omega (arith, last_inside, ap (λ v. length v.items) was) in
            subst (λ (o : InOrder T). slice_get o.items (prefix_len p o.items - 1) ≡ Some y) view
            (ap (λ k. slice_get (items_of blocks.items) k) (sym last_index) ∙ item_of_block blocks.items at (n - 1) d cut_here there ∙ ap (λ v. slice_get v.items (n - 1)) (sym was) ∙ e)

        pub without_last : {xs : List T} → xs ≡ remove (items_of blocks.items) (length (items_of (take at blocks.items)) + (n - 1)) → xs ≡ remove m.items (prefix_len p m.items - 1)
        without_last {xs} e = subst (λ (o : InOrder T). xs ≡ remove o.items (prefix_len p o.items - 1)) view (e ∙ ap (λ k. remove (items_of blocks.items) k) last_index)
